use Rattle.cir_meaning.proofs.RunLaws.{run_accepted, run_never_misses}
use Rattle.cir_meaning.proofs.laws.runs_never_miss.Goals as goal

pub returns-clause-accepted : goal.returns-clause-accepted
returns-clause-accepted c = run_accepted

pub returns-clause-missed : goal.returns-clause-missed
returns-clause-missed c = run_never_misses
