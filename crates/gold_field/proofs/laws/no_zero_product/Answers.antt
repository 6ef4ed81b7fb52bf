use Rattle.gold_field.proofs.PrimeLaws.{p_euclid}
use Rattle.gold_field.proofs.laws.no_zero_product.Goals as goal

pub returns : goal.returns
returns c = p_euclid
