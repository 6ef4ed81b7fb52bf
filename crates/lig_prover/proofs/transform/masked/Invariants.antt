use Rattle.std.proofs.Common.{◌≡◌}
use Rattle.lig_proof.specs.Encoding.{masked}
use Rattle.lig_prover.proofs.transform.masked.Given as goal

abbrev pub invariant-loop-i : goal.invariant-loop-i
invariant-loop-i l = l.coefs.items ≡ masked l.l l.i l.base l.mask
