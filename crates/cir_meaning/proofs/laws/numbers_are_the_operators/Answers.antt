use Rattle.cir_meaning.proofs.NumberLaws.{numbers}
use Rattle.cir_meaning.proofs.laws.numbers_are_the_operators.Goals as goal

pub returns : goal.returns
returns c = λ op x y v s. numbers s op x y v
