use Rattle.cir_symbols.proofs.Named.{circuit_named}
use Rattle.cir_symbols.proofs.laws.circuits_can_be_named.Goals as goal

pub returns : goal.returns
returns c = circuit_named
