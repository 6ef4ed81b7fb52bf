use Rattle.gold_field.proofs.PrimeLaws.{p_prime}
use Rattle.gold_field.proofs.laws.p_is_prime.Goals as goal

pub returns : goal.returns
returns c = p_prime
