use Rattle.cir_meaning.proofs.NumberLaws.{unary_classes, unary_numbers}
use Rattle.cir_meaning.proofs.laws.unary_operators.Goals as goal

pub returns-clause-class : goal.returns-clause-class
returns-clause-class c = unary_classes

pub returns-clause-number : goal.returns-clause-number
returns-clause-number c = λ op x s. unary_numbers s op x
