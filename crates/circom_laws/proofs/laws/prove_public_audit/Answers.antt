use Rattle.circom_laws.proofs.Chains.{accepted_in_turn}
use Rattle.circom_laws.proofs.laws.prove_public_audit.Goals as goal

pub returns : goal.returns
returns c =
    λ first second third last r1cs wtns publics proof options exit proved published said
    a b d p q r s.
    accepted_in_turn first second third last r1cs wtns publics proof options exit proved published
    said a b d p q r s
