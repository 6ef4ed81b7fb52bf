use Rattle.cir_meaning.proofs.FineLaws.{list_holds}
use Rattle.cir_meaning.proofs.laws.list_is_satisfied.Goals as goal

pub returns : goal.returns
returns c = list_holds
