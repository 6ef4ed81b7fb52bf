use Rattle.std.proofs.Common.{◌≡◌, ◌++◌, map, Some, drop}
use Rattle.cir_homes.proofs.filling.add_all.Given as goal

abbrev pub invariant-loop-cell : goal.invariant-loop-cell
invariant-loop-cell l =
    map Some l.cells.items ++ drop l.cell-index l.found ≡ map Some l.initial.cells.items ++ l.found
