use Rattle.cir_meaning.proofs.OneSource.{one_source}
use Rattle.cir_meaning.proofs.laws.one_source_list.Goals as goal

pub returns : goal.returns
returns c = one_source
