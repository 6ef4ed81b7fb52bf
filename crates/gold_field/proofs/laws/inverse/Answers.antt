use Rattle.gold_field.proofs.PrimeLaws.{inverse_from}
use Rattle.gold_field.proofs.laws.inverse.Goals as goal

pub returns : goal.returns
returns c = inverse_from
