use Rattle.cir_determined.proofs.Once.{one_answer}
use Rattle.cir_determined.proofs.laws.one_answer.Goals as goal

pub returns : goal.returns
returns c = one_answer
