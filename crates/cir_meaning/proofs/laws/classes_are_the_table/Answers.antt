use Rattle.cir_meaning.proofs.ClassLaws.{classes}
use Rattle.cir_meaning.proofs.laws.classes_are_the_table.Goals as goal

pub returns : goal.returns
returns c = classes
