use Rattle.wit_input.proofs.ReadBack.{publics_again}
use Rattle.wit_input.proofs.laws.publics_are_read_back.Goals as goal

pub returns : goal.returns
returns c = publics_again
