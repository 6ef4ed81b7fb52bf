use Rattle.lig_proof.proofs.TestValues.{encoded_has_degrees, proximity_test_has_values}
use Rattle.lig_proof.proofs.TestValues.{linear_test_has_values, product_test_has_values}
use Rattle.lig_proof.proofs.laws.tests_have_values.Goals as goal

pub returns : goal.returns
returns c = record {
  degrees = encoded_has_degrees;
  proximity = proximity_test_has_values;
  linear = linear_test_has_values;
  product = product_test_has_values;
}
