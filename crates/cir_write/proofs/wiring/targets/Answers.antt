use Rattle.std.proofs.Common.{◌≡◌, ◌∙◌, ℕ, ◌+◌, List, [], ◌∷◌, ◌++◌, Option, ap, arith, length, map}
use Rattle.std.proofs.Common.{min, sym}
use Rattle.std.specs.Prelude.{unwrap_or}
use Rattle.std.proofs.lemmas.List.{map-append}
use Rattle.cir_arrays.specs.Shown.{datum_of}
use Rattle.cir_frame.specs.Targets.{run_of}
use Rattle.cir_meaning.specs.Places.{numbers_from}
use Rattle.cir_steps.specs.Emission.{ports_of, wire_cell}
use Rattle.cir_make.specs.Cells.{cell_in}
use Rattle.cir_make.specs.declared.cells.Run.{Run}
use Rattle.cir_write.proofs.Wires.{cell_is, one_more, written_are}
use Rattle.cir_write.proofs.wiring.targets.Goals as goal

pub loop-at-preserved : goal.loop-at-preserved
loop-at-preserved c = λ x have.
    let t = c.args.target.now in
    let f : ℕ → ℕ = wire_cell (ports_of t.part x) t.number in
    let first = (run_of t.reach.part).0 in
    let at = c.loop-at.at in
    let k = c.in_ok-place.place in
    let near : k ≡ c.run-first.result.0 + at =
    (rw c.in_ok-place.ensures.ok_part at c.checked_add.ensures).1 in
    let place : k ≡ first + at =
    near ∙ ap (λ (r : ℕ × ℕ). r.0 + at) c.run-first.ensures in
    let is : c.in_ok-cell.field-0 ≡ f (first + at) =
    c.in_ok-cell.ensures
    ∙ ap (λ (rows : List Run). unwrap_or (cell_in rows k) 0) c.find_rows-rows.ensures
    ∙ sym (ap (λ (o : Option ℕ). unwrap_or o 0)
    (cell_is x c.args.cells.now t.part t.number k have))
    ∙ ap f place in
    c.in_ok-push.ensures.ok
    ∙ ap (λ (l : List ℕ). l ++ c.in_ok-cell.field-0 ∷ []) (c.loop-at.invariant x have)
    ∙ ap (λ (n : ℕ). map f (numbers_from first at) ++ n ∷ []) is
    ∙ sym (map-append f (numbers_from first at) ((first + at) ∷ []))
    ∙ sym (ap (map f) (one_more first at))

pub returns : goal.returns
returns c = λ x first count have run.
    let t = c.args.target.now in
    let f : ℕ → ℕ = wire_cell (ports_of t.part x) t.number in
    let vs = (datum_of c.args.value.now).items in
    let at = c.loop-at.at in
    let many : c.run-first.result.1 ≡ count =
    ap (λ (r : ℕ × ℕ). r.1) (c.run-first.ensures ∙ run) in
    let ends : at ≡ min count (length vs) =
    omega (
      arith,
      c.loop-at-test.false,
      c.loop-at.auto.at-end,
      c.min-at-end.ensures,
      c.item_count.ensures,
      many,
    ) in
    c.loop-at.invariant x have
    ∙ ap (λ (r : ℕ × ℕ). map f (numbers_from r.0 at)) run
    ∙ ap (λ (n : ℕ). map f (numbers_from first n)) ends
    ∙ sym (ap (map f) (written_are first count vs))
