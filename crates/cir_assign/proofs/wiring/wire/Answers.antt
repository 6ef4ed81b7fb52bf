use Rattle.std.proofs.Common.{sym, subst, refl, Ok, ◌≡◌}
use Rattle.cir_lc.specs.Number.{value_of}
use Rattle.cir_values.specs.declared.value.Value.{Value as CodeValue}
use Rattle.cir_values.specs.Meant.{meant}
use Rattle.cir_meaning.specs.Values.{Linear}
use Rattle.cir_meaning.specs.Writing.{constrained}
use Rattle.cir_arrays.specs.Counted.{counts_of}
use Rattle.cir_frame.specs.Shown.{state_of, world_of}
use Rattle.cir_frame.specs.Targets.{target_by}
use Rattle.cir_evaluate.specs.Within.{where_at}
use Rattle.cir_assign.specs.Leads.{Leads}
use Rattle.cir_assign.proofs.Stepping.{leads_as, lists_kept}
use Rattle.cir_assign.proofs.Wires.{element, element_constrained, element_written, written_told}
use Rattle.cir_assign.proofs.wiring.wire.Goals as goal

pub returns-in-Assign : goal.returns-in-Assign
returns-in-Assign g c = λ k r qs size.
    let w = where_at c.args.here.now in
    let t = target_by c.args.target.now r in
    let s = state_of c.args.frame.now c.args.world.now qs in
    let after = state_of c.write_element.new.frame c.args.world.now qs in
    let told = written_told w t c.args.place s c.write_element.new.frame c.args.world.now qs
    (counts_of c.args.world.now.added) c.in_ok-first.first
    (rw c.site.ensures at (c.in_ok-first.ensures (counts_of c.args.world.now.added)
    (world_of c.args.world.now qs) r)) in (
      qs,
      subst (λ a. element k w a t c.args.place (meant c.args.v.now) s ≡ Ok after)
          (sym c.in-Assign.is)
          (element_written k w t c.args.place (meant c.args.v.now) s after told.0 told.1),
      lists_kept qs c.args.world.now c.args.world.now refl,
    )

pub returns-in_ok-left-in-Constrain : goal.returns-in_ok-left-in-Constrain
returns-in_ok-left-in-Constrain g c = λ k r qs size.
    let w = where_at c.args.here.now in
    let t = target_by c.args.target.now r in
    let s = state_of c.args.frame.now c.args.world.now qs in
    let after = state_of c.write_element.new.frame c.args.world.now qs in
    let v = meant c.args.v.now in
    let form = value_of c.in_ok-left-in-Constrain.left in
    let told = written_told w t c.args.place s c.write_element.new.frame c.args.world.now qs
    (counts_of c.args.world.now.added) c.in_ok-first.first
    (rw c.site.ensures at (c.in_ok-first.ensures (counts_of c.args.world.now.added)
    (world_of c.args.world.now qs) r)) in
    subst (λ a. Leads qs c.args.world.now c.write_element.new.frame c.constrain.new.world
    c.constrain.result (element k w a t c.args.place v s)) (sym c.in-Constrain.is)
    (leads_as qs c.args.world.now c.write_element.new.frame c.constrain.new.world
    c.constrain.result _ (constrained k w (Linear form) v after)
    (element_constrained k w t c.args.place v s after told.0 c.in_ok-first.first
    c.in_ok-number-in-Constrain.number form told.1 told.2 c.in_ok-number-in-Constrain.ensures.ok
    c.in_ok-left-in-Constrain.ensures.value)
    (subst (λ (y : CodeValue). Leads qs c.args.world.now c.write_element.new.frame
    c.constrain.new.world c.constrain.result (constrained k w (Linear form) (meant y) after))
    c.replace.ensures.value
    (c.constrain.ensures.equation k c.write_element.new.frame qs size)))
