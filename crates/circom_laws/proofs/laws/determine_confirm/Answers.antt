use Rattle.circom_laws.proofs.Chains.{confirmed_in_turn}
use Rattle.circom_laws.proofs.laws.determine_confirm.Goals as goal

pub returns : goal.returns
returns c =
    λ first second last r1cs certificate exit found said a b differ.
    confirmed_in_turn first second last r1cs certificate exit found said a b differ
