use Rattle.cir_steps.proofs.InstanceLaw.{instances_stand}
use Rattle.cir_steps.proofs.laws.steps_stand_in_instances.Goals as goal

pub returns : goal.returns
returns c = λ p c b i step resolved compiles emitted there.
    instances_stand p c b resolved compiles emitted i step there
