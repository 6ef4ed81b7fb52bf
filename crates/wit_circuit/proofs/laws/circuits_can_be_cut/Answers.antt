use Rattle.wit_circuit.proofs.Cutting.{circuits_cut}
use Rattle.wit_circuit.proofs.laws.circuits_can_be_cut.Goals as goal

pub returns : goal.returns
returns c = circuits_cut
