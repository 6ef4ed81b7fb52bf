use Rattle.wit_circuit.proofs.Lowered.{made_of_lowered}
use Rattle.wit_circuit.proofs.laws.lowered_code_is_made.Goals as goal

pub returns : goal.returns
returns c = λ p keys later procs s sources m low fits table is reads writes.
    made_of_lowered p keys later procs s sources m low fits table is reads writes
