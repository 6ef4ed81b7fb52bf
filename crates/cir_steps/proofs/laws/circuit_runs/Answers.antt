use Rattle.cir_steps.proofs.CircuitLaw.{circuits_run}
use Rattle.cir_steps.proofs.laws.circuit_runs.Goals as goal

pub returns : goal.returns
returns c = circuits_run
