use Rattle.wit_circuit.proofs.Telling.{tells_run}
use Rattle.wit_circuit.proofs.laws.outcomes_tell_the_run.Goals as goal

pub returns : goal.returns
returns c = tells_run
