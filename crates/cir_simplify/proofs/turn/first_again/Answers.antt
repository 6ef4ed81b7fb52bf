use Rattle.std.proofs.Common.{◌≡◌, ◌<◌, Some, sym, ap, ◌∙◌, inl, inr, arith, length}
use Rattle.std.proofs.Common.{refl}
use Rattle.std.proofs.lemmas.List.{get_or_past}
use Rattle.cir_simplify.specs.Shape.{pivot}
use Rattle.cir_simplify.specs.Index.{row, empty}
use Rattle.cir_simplify.proofs.Picks.{first_at, below_none, ready_less, popped}
use Rattle.cir_simplify.proofs.Starting.{pivot_empty}
use Rattle.cir_simplify.proofs.turn.first_again.Goals as goal
use Rattle.cir_simplify.proofs.turn.first_again.Goals.{
  then-place-ready+then-place-len+in_default-pivot,
}
use Rattle.cir_simplify.proofs.turn.first_again.Goals.{else-place-ready}
use Rattle.cir_simplify.proofs.turn.first_again.Goals.{
  else-place-ready-via-then-place-ready+else-place-len,
}
use Rattle.cir_simplify.proofs.turn.first_again.Goals.{else-place-ready-via-else-place-ready}

pub returns-in-Some-pivot-clause-found : goal.returns-in-Some-pivot-clause-found
returns-in-Some-pivot-clause-found c =
    let inside : c.in-Some.place.now < length c.args.rows.now.items = omega arith in
    let passed : c.in-Some.place.now < c.loop-place.ready.next = omega arith in
    let here : pivot c.args.rules (row c.args.rows.now.items c.in-Some.place.now)
    ≡ Some c.in-Some-pivot.term =
    sym (c.in-Some-pivot.ensures ∙ ap (pivot c.args.rules) c.at.ensures) in
    record {
      inside = inside;
      here = here;
      first = first_at c.args.rules c.args.rows.now.items _ _ inside
          (below_none c.args.rules c.args.rows.now.items c.loop-place.ready _
          c.loop-place.invariant c.in-Some.ensures.least passed) here;
    }

pub loop-place-preserved : goal.loop-place-preserved
loop-place-preserved c =
    ready_less c.args.rules c.args.rows.now.items c.loop-place.ready _ c.in-Some.place.now refl
    (popped c.pop_first.result _ _ _ c.in-Some.ensures.first c.pop_first.ensures.variant.1
    c.pop_first.ensures.removal)
    (elim c.if-place-ready.branch [
      | then-place-ready+then-place-len+in_default-pivot w ↦
          inr (ap (pivot c.args.rules) (sym w.at.ensures) ∙ sym w.pivot.ensures
          ∙ w.in_default-pivot.is)
      | else-place-ready w ↦ elim w.else-place-ready.branch [
        | else-place-ready-via-then-place-ready+else-place-len v ↦
            inr (ap (pivot c.args.rules) (get_or_past c.args.rows.now.items c.in-Some.place.now
            empty (omega arith)) ∙ pivot_empty c.args.rules)
        | else-place-ready-via-else-place-ready v ↦ inl (omega arith)
      ]
    ])
    c.loop-place.invariant
