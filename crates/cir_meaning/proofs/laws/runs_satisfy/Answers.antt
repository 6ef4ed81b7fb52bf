use Rattle.cir_meaning.proofs.RunLaws.{run_counts, run_has_values, run_satisfies}
use Rattle.cir_meaning.proofs.laws.runs_satisfy.Goals as goal

pub returns-clause-counted : goal.returns-clause-counted
returns-clause-counted c = run_counts

pub returns-clause-values : goal.returns-clause-values
returns-clause-values c = run_has_values

pub returns-clause-satisfied : goal.returns-clause-satisfied
returns-clause-satisfied c = run_satisfies
