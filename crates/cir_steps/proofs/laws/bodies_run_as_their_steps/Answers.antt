use Rattle.cir_steps.proofs.RunningLaw.{bodies_run}
use Rattle.cir_steps.proofs.laws.bodies_run_as_their_steps.Goals as goal

pub returns : goal.returns
returns c = λ p size fuel room n first w ds path world o given q resolved begins made starts.
    bodies_run p resolved size fuel room n first w ds path world o given q begins made starts
