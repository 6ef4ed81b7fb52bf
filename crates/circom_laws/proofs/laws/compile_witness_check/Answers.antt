use Rattle.circom_laws.proofs.Chains.{satisfied_in_turn}
use Rattle.circom_laws.proofs.laws.compile_witness_check.Goals as goal

pub returns : goal.returns
returns c =
    λ first second third last source input r1cs wtns options running exit made ran text a b d p q.
    satisfied_in_turn first second third last source input r1cs wtns options running exit made ran
    text a b d p q
