use Rattle.std.proofs.Common.{◌≡◌, map, take, unwrap_or}
use Rattle.wit_flow.proofs.running.values_of.Given as goal

abbrev pub invariant-loop-cell : goal.invariant-loop-cell
invariant-loop-cell l = l.values.items ≡ map (λ o. unwrap_or o 0) (take l.cell-index l.cells)
