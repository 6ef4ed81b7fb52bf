use Rattle.lig_merkle.proofs.Binding.{binds}
use Rattle.lig_merkle.proofs.SharedBinding.{shared_binds}
use Rattle.lig_merkle.proofs.laws.openings_bind.Goals as goal

pub returns : goal.returns
returns c = record { one = binds; several = shared_binds }
