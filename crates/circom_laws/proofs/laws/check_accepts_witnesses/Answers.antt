use Rattle.circom_gold.proofs.WitnessLaws.{check_accepts}
use Rattle.circom_laws.proofs.laws.check_accepts_witnesses.Goals as goal

pub returns : goal.returns
returns c = check_accepts
