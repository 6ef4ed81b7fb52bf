use Rattle.circom_files.proofs.CheckLaws.{satisfied, least}
use Rattle.circom_files.proofs.laws.check_laws.Goals as goal

pub returns-clause-satisfied : goal.returns-clause-satisfied
returns-clause-satisfied c = satisfied

pub returns-clause-least : goal.returns-clause-least
returns-clause-least c = least
