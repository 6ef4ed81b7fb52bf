use Rattle.std.proofs.Common.{arith}
use Rattle.cir_values.proofs.Within.{single_value}
use Rattle.cir_values.proofs.value.constant_form.Goals as goal

pub returns-in_ok-f-clause-value : goal.returns-in_ok-f-clause-value
returns-in_ok-f-clause-value c = single_value c.args.k _ (omega arith) c.in_ok-f.ensures
