use Rattle.std.proofs.Common.{◌≡◌, drop}
use Rattle.cir_make.specs.Cells.{cell_in}
use Rattle.cir_write.proofs.wiring.cell.Given as goal

abbrev pub invariant-loop-row : goal.invariant-loop-row
invariant-loop-row l = cell_in l.rows l.place ≡ cell_in (drop l.row-index l.rows) l.place
