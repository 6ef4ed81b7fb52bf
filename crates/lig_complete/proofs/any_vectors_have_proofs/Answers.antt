use Rattle.lig_complete.proofs.Making.{any_vectors_have_proofs}
use Rattle.lig_complete.proofs.any_vectors_have_proofs.Goals as goal

pub returns : goal.returns
returns c = any_vectors_have_proofs
