use Rattle.std.proofs.Common.{take}
use Rattle.lig_merkle.specs.Merkle.{column_bytes}
use Rattle.lig_merkle.specs.Hashing.{Absorbs}
use Rattle.lig_merkle.proofs.hash.absorb.Given as goal

-- the values so far have been added
abbrev pub invariant-loop-value : goal.invariant-loop-value
invariant-loop-value l =
    Absorbs (column_bytes (take l.value-index l.values)) l.initial.hasher l.hasher
