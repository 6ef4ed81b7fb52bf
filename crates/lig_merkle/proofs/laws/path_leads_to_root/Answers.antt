use Rattle.lig_merkle.proofs.Paths.{leads_to_root}
use Rattle.lig_merkle.proofs.laws.path_leads_to_root.Goals as goal

pub returns : goal.returns
returns c = leads_to_root
