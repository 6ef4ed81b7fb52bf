use Rattle.cir_emit.proofs.Law.{step_right}
use Rattle.cir_emit.proofs.laws.lowered_steps_are_right.Goals as goal

pub returns : goal.returns
returns c = λ program keys step sources low fits. step_right program keys step sources low fits
