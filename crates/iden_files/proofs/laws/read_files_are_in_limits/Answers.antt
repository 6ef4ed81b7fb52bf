use Rattle.iden_files.proofs.LimitLaws.{read_file_in_limits}
use Rattle.iden_files.proofs.laws.read_files_are_in_limits.Goals as goal

pub returns : goal.returns
returns c = λ bytes f read. read_file_in_limits bytes f read
