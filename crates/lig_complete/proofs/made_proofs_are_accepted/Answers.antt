use Rattle.lig_complete.proofs.Accepted.{accepted, none_is_refused}
use Rattle.lig_complete.proofs.made_proofs_are_accepted.Goals as goal

pub returns : goal.returns
returns c = record { accepted = accepted; only = none_is_refused }
