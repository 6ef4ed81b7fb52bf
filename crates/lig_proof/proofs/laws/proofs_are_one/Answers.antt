use Rattle.lig_proof.proofs.MadeOnce.{proofs_are_one}
use Rattle.lig_proof.proofs.laws.proofs_are_one.Goals as goal

pub returns : goal.returns
returns c = proofs_are_one
