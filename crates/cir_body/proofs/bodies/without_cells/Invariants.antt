use Rattle.std.proofs.Common.{◌≡◌, length}
use Rattle.cir_body.specs.Bodies.{AreWithoutCells}
use Rattle.cir_body.proofs.bodies.without_cells.Given as goal

abbrev pub invariant-loop-at : goal.invariant-loop-at
invariant-loop-at l =
    (length l.variables.items ≡ l._at) × AreWithoutCells l.variables.items
