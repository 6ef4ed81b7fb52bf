use Rattle.cir_meaning.proofs.Holding.{all_hold}
use Rattle.cir_meaning.proofs.laws.source_list_holds.Goals as goal

pub returns : goal.returns
returns c = all_hold
