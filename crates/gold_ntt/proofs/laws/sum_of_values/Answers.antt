use Rattle.gold_ntt.proofs.Division.{value_sum}
use Rattle.gold_ntt.proofs.laws.sum_of_values.Goals as goal

pub returns : goal.returns
returns c = value_sum
