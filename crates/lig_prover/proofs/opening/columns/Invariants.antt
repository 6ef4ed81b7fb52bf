use Rattle.std.proofs.Common.{◌≡◌, map, take}
use Rattle.lig_prover.specs.Matrix.{column_in}
use Rattle.lig_prover.proofs.opening.columns.Given as goal

abbrev pub invariant-loop-at : goal.invariant-loop-at
invariant-loop-at l = l.columns.items ≡ map (column_in l.codewords) (take l.at-index l.opened)
