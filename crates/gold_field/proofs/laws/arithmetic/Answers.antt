use Rattle.gold_field.specs.declared.gold.TheConstants.{P}
use Rattle.gold_field.proofs.FieldLaws.{sum_of_rests, product_of_rests, sum_assoc, product_assoc}
use Rattle.gold_field.proofs.FieldLaws.{product_over_sum, difference_back}
use Rattle.gold_field.proofs.laws.arithmetic.Goals as goal

pub returns : goal.returns
returns c = record {
  sum = sum_of_rests P;
  product = product_of_rests P;
  sum_assoc = sum_assoc P;
  product_assoc = product_assoc P;
  product_over_sum = product_over_sum P;
  difference = difference_back P;
}
