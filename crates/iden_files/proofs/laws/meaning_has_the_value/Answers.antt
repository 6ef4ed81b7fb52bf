use Rattle.iden_files.proofs.MeaningLaws.{form_of_value}
use Rattle.iden_files.proofs.laws.meaning_has_the_value.Goals as goal

pub returns : goal.returns
returns c = λ s wires terms below. form_of_value s wires terms below
