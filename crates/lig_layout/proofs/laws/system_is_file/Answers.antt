use Rattle.lig_layout.proofs.Exact.{system_is_file}
use Rattle.lig_layout.proofs.laws.system_is_file.Goals as goal

pub returns : goal.returns
returns c = system_is_file
