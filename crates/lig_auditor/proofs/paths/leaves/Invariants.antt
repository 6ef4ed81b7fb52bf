use Rattle.std.proofs.Common.{◌≡◌, map, take}
use Rattle.lig_merkle.specs.Merkle.{leaf_hash}
use Rattle.lig_auditor.proofs.paths.leaves.Given as goal

abbrev pub invariant-loop-column : goal.invariant-loop-column
invariant-loop-column l = l.leaves.items ≡ map leaf_hash (take l.column-index l.columns)
