use Rattle.cir_symbols.proofs.One.{wires_of_file}
use Rattle.cir_symbols.proofs.laws.wires_are_those_of_the_file.Goals as goal

pub returns : goal.returns
returns c = wires_of_file
