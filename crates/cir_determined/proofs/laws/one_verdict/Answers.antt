use Rattle.cir_determined.proofs.Once.{verdicts_are_one}
use Rattle.cir_determined.proofs.laws.one_verdict.Goals as goal

pub returns : goal.returns
returns c = verdicts_are_one
