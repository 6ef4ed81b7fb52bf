use Rattle.std.proofs.Common.{◌≡◌, ◌++◌, take}
use Rattle.lig_merkle.specs.Merkle.{column_bytes}
use Rattle.lig_proof.proofs.write.put_values.Given as goal

abbrev pub invariant-loop-value : goal.invariant-loop-value
invariant-loop-value l = l.out.items ≡ l.fn.out.items ++ column_bytes (take l.value-index l.values)
