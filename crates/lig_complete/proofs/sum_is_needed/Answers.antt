use Rattle.lig_complete.proofs.Made.{sum_is_needed}
use Rattle.lig_complete.proofs.Making.{false_proofs_exist}
use Rattle.lig_complete.proofs.sum_is_needed.Goals as goal

pub returns : goal.returns
returns c = record { accepted = sum_is_needed; exist = false_proofs_exist }
