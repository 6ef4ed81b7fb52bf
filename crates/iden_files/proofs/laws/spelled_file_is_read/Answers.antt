use Rattle.iden_files.proofs.ReadAgain.{file_again}
use Rattle.iden_files.proofs.laws.spelled_file_is_read.Goals as goal

pub returns : goal.returns
returns c = λ f whole limits. file_again f whole limits
