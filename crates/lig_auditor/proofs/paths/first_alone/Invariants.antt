use Rattle.std.proofs.Common.{◌≡◌, ℕ, ◌<◌, [], get_or}
use Rattle.lig_merkle.specs.Merkle.{leaf_hash, root_of}
use Rattle.lig_auditor.proofs.paths.first_alone.Given as goal

abbrev pub invariant-loop-q : goal.invariant-loop-q
invariant-loop-q l = (k : ℕ) → k < l.q
    → root_of (leaf_hash (get_or l.proof.columns k [])) (get_or l.indices k 0)
    (get_or l.proof.paths k []) ≡ l.proof.root
