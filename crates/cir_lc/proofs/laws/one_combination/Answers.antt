use Rattle.cir_lc.proofs.Known.{known}
use Rattle.cir_lc.proofs.laws.one_combination.Goals as goal

pub returns : goal.returns
returns c = known
