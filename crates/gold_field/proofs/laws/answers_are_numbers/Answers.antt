use Rattle.gold_field.proofs.Answers.{unary_below, binary_below}
use Rattle.gold_field.proofs.laws.answers_are_numbers.Goals as goal

pub returns : goal.returns
returns c = record { unary = unary_below; binary = binary_below }
