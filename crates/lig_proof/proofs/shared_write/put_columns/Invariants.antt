use Rattle.std.proofs.Common.{◌≡◌, ◌++◌, take}
use Rattle.std.specs.List.{flat_map}
use Rattle.lig_merkle.specs.Merkle.{column_bytes}
use Rattle.lig_proof.proofs.shared_write.put_columns.Given as goal

abbrev pub invariant-loop-column : goal.invariant-loop-column
invariant-loop-column l =
    l.out.items ≡ l.initial.out.items ++ flat_map column_bytes (take l.column-index l.columns)
