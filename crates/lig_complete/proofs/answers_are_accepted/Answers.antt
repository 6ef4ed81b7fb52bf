use Rattle.lig_complete.proofs.Answered.{answers_accepted}
use Rattle.lig_complete.proofs.answers_are_accepted.Goals as goal

pub returns : goal.returns
returns c = answers_accepted
