use Rattle.std.proofs.Common.{◌≡◌, ◌++◌, drop}
use Rattle.lig_proof.specs.ProofBytes.{openings_bytes}
use Rattle.lig_proof.proofs.write.put_openings.Given as goal

-- what is left is still to be written
abbrev pub invariant-loop-k : goal.invariant-loop-k
invariant-loop-k l = l.out.items ++ openings_bytes (drop l.k l.columns) (drop l.k l.paths)
    ≡ l.fn.out.items ++ openings_bytes l.columns l.paths
