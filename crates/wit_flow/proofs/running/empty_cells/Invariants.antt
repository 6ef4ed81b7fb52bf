use Rattle.std.proofs.Common.{◌≡◌, None, replicate}
use Rattle.wit_flow.proofs.running.empty_cells.Given as goal

abbrev pub invariant-loop-made : goal.invariant-loop-made
invariant-loop-made l = l.cells.items ≡ replicate l.made None
