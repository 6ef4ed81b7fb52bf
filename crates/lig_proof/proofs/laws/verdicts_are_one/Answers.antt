use Rattle.lig_proof.proofs.VerdictOnce.{verdicts_are_one}
use Rattle.lig_proof.proofs.laws.verdicts_are_one.Goals as goal

pub returns : goal.returns
returns c = verdicts_are_one
