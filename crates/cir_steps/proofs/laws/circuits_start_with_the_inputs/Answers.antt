use Rattle.cir_steps.proofs.StartLaw.{starts_counted}
use Rattle.cir_steps.proofs.laws.circuits_start_with_the_inputs.Goals as goal

pub returns : goal.returns
returns c = starts_counted
