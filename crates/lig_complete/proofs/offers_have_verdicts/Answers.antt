use Rattle.lig_complete.proofs.Offered.{offers_have_verdicts}
use Rattle.lig_complete.proofs.offers_have_verdicts.Goals as goal

pub returns : goal.returns
returns c = offers_have_verdicts
