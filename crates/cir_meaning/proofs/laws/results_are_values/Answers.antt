use Rattle.cir_meaning.specs.Values.{side_of}
use Rattle.cir_meaning.proofs.ValueLaws.{result_value, unary_value}
use Rattle.cir_meaning.proofs.LazyLaws.{and_value, or_value, chosen_value}
use Rattle.cir_meaning.proofs.laws.results_are_values.Goals as goal

pub returns : goal.returns
returns c = record {
  binary = result_value;
  unary = unary_value;
  and = and_value;
  or = or_value;
  choice = λ d x y. chosen_value (side_of d) x y;
}
