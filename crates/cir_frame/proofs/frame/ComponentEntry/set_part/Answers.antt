use Rattle.std.proofs.Common.{◌≡◌, ℕ, ◌<◌, length, Some, is_some, ap, sym, ◌∙◌, zero-add, arith}
use Rattle.std.specs.Prelude.{min, slice_set}
use Rattle.std.specs.List.{position_from}
use Rattle.std.proofs.lemmas.List.{length-set}
use Rattle.cir_frame.proofs.Numbered.{first_of_none, first_of_some}
use Rattle.cir_frame.proofs.frame.ComponentEntry.set_part.Goals as goal
use Rattle.cir_frame.proofs.frame.ComponentEntry.set_part.Goals.{in-None, in-Some}

pub invariant_of-self : goal.invariant_of-self
invariant_of-self c =
    let xs = c.args.self.now.parts.items in
    let h : c.args.place < length xs = omega (arith, c.len.ensures) in
    let led : c.match-self.self
    ≡ position_from (is_some {T = ℕ}) 0 (slice_set xs c.args.place (Some c.args.part)) =
    elim c.match-self.branch [
      | in-None w ↦ w.self-is ∙ (ap Some (sym (zero-add c.args.place))
          ∙ sym (first_of_none 0 c.args.place c.args.part xs h
          (sym c.args.self.now.led ∙ w.in-None.is)))
      | in-Some w ↦ w.self-is
          ∙ (ap Some (w.min.ensures ∙ ap (min w.in-Some.first) (sym (zero-add c.args.place)))
          ∙ sym (first_of_some 0 c.args.place c.args.part w.in-Some.first xs h
          (sym c.args.self.now.led ∙ w.in-Some.is)))
    ] in
    record {
      sized = length-set xs c.args.place (Some c.args.part) ∙ c.args.self.now.sized;
      led = led;
    }
