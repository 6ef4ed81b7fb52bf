use Rattle.cir_symbols.proofs.One.{one_naming}
use Rattle.cir_symbols.proofs.laws.sources_have_one_list.Goals as goal

pub returns : goal.returns
returns c = one_naming
