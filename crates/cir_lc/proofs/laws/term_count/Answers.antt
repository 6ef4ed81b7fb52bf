use Rattle.cir_lc.proofs.Known.{terms_are}
use Rattle.cir_lc.proofs.laws.term_count.Goals as goal

pub returns : goal.returns
returns c = terms_are
