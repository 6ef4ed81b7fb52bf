use Rattle.iden_files.proofs.ReadAgain.{values_again}
use Rattle.iden_files.proofs.laws.spelled_values_are_read.Goals as goal

pub returns : goal.returns
returns c = λ values few below. values_again values few below
