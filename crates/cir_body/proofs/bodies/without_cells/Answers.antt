use Rattle.std.proofs.Common.{List, [], ap, arith, false, length, subst, sym}
use Rattle.std.proofs.lemmas.List.{length_push}
use Rattle.cir_make.specs.declared.cells.VariableCells.{VariableCells}
use Rattle.cir_body.specs.Bodies.{AreWithoutCells}
use Rattle.cir_body.proofs.Casting.{none_without, without_more}
use Rattle.cir_body.proofs.bodies.without_cells.Goals as goal

pub loop-at-init : goal.loop-at-init
loop-at-init c =
    let none = c.new-variables.ensures.items in (
      ap (λ (l : List VariableCells). length l) none,
      subst AreWithoutCells (sym none) none_without,
    )

pub loop-at-preserved : goal.loop-at-preserved
loop-at-preserved c =
    let had = c.loop-at.variables.items in
    let v : VariableCells = record { sources = c.new.result; is_lost = false } in
    let more = ap (λ (l : List VariableCells). length l) c.in_ok-push.ensures.items in
    let one = length_push had v in (
      omega (arith, more, one, c.loop-at.invariant.0),
      subst AreWithoutCells (sym c.in_ok-push.ensures.items)
          (without_more had v c.loop-at.invariant.1 c.new.ensures.items),
    )
