use Rattle.circom_files.proofs.Accepts.{says_accepted}
use Rattle.circom_laws.proofs.laws.audit_laws.Goals as goal

pub returns : goal.returns
returns c = says_accepted
