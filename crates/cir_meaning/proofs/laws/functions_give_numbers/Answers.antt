use Rattle.cir_meaning.proofs.RunLaws.{give_numbers}
use Rattle.cir_meaning.proofs.laws.functions_give_numbers.Goals as goal

pub returns : goal.returns
returns c = give_numbers
