use Rattle.wit_lower.proofs.Loading.{step_runs}
use Rattle.wit_lower.proofs.FormedTable.{step_is}
use Rattle.wit_lower.proofs.CountedStep.{step_counts}
use Rattle.wit_lower.proofs.laws.code_is_right.Goals as goal

pub returns : goal.returns
returns c = λ program keys sources variables task fits. record {
  formed = λ later procs table.
      step_is program keys sources variables task fits later procs table;
  counted = λ later procs table reads fuel values ran.
      step_counts program keys sources variables task fits later procs table reads fuel values ran;
  runs = λ later procs table cells fuel outcome is.
      step_runs program keys sources variables later procs table cells fuel outcome task fits is;
}
