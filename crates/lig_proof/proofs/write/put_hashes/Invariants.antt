use Rattle.std.proofs.Common.{◌≡◌, ◌++◌, take}
use Rattle.lig_proof.specs.ProofBytes.{hashes_bytes}
use Rattle.lig_proof.proofs.write.put_hashes.Given as goal

abbrev pub invariant-loop-hash : goal.invariant-loop-hash
invariant-loop-hash l = l.out.items ≡ l.fn.out.items ++ hashes_bytes (take l.hash-index l.hashes)
