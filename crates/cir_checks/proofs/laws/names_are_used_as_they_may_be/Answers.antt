use Rattle.cir_checks.proofs.UsedPrograms.{is_used}
use Rattle.cir_checks.proofs.laws.names_are_used_as_they_may_be.Goals as goal

pub returns : goal.returns
returns c = is_used
