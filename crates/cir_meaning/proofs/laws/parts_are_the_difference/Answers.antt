use Rattle.cir_meaning.proofs.Difference.{difference_is}
use Rattle.cir_meaning.proofs.laws.parts_are_the_difference.Goals as goal

pub returns : goal.returns
returns c = difference_is
