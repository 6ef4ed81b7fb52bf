use Rattle.std.proofs.Common.{◌≡◌, map, slice_index, take}
use Rattle.wit_run.proofs.running.numbers_in.Given as goal

abbrev pub invariant-loop-cell : goal.invariant-loop-cell
invariant-loop-cell l = l.numbers.items ≡ map (slice_index l.values) (take l.cell-index l.cells)
