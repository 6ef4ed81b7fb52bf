use Rattle.lig_merkle.proofs.Leading.{shared_nodes_lead}
use Rattle.lig_merkle.proofs.laws.shared_nodes_lead_to_root.Goals as goal

pub returns : goal.returns
returns c = shared_nodes_lead
