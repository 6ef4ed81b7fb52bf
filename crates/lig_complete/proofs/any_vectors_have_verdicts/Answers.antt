use Rattle.lig_complete.proofs.Made.{any_vectors_have_verdicts}
use Rattle.lig_complete.proofs.any_vectors_have_verdicts.Goals as goal

pub returns : goal.returns
returns c = any_vectors_have_verdicts
