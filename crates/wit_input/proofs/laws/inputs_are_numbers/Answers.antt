use Rattle.wit_input.proofs.InputNumbers.{input_counted}
use Rattle.wit_input.proofs.laws.inputs_are_numbers.Goals as goal

pub returns-clause-count : goal.returns-clause-count
returns-clause-count c = λ bytes inputs numbers e. (input_counted bytes inputs numbers e).many

pub returns-clause-below : goal.returns-clause-below
returns-clause-below c = λ bytes inputs numbers e. (input_counted bytes inputs numbers e).below
