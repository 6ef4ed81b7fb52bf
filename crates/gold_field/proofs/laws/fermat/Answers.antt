use Rattle.gold_field.proofs.PrimeLaws.{p_fermat}
use Rattle.gold_field.proofs.laws.fermat.Goals as goal

pub returns : goal.returns
returns c = p_fermat
