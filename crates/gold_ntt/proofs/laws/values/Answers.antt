use Rattle.gold_ntt.proofs.Interpolation.{value_of_padded}
use Rattle.gold_ntt.proofs.Products.{value_of_sum, value_of_multiple, value_of_product}
use Rattle.gold_ntt.proofs.laws.values.Goals as goal

pub returns : goal.returns
returns c =
    record {
      sum = value_of_sum;
      multiple = value_of_multiple;
      product = value_of_product;
      padded = value_of_padded;
    }
