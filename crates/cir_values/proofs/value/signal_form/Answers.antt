use Rattle.cir_values.proofs.Within.{signal_value}
use Rattle.cir_values.proofs.value.signal_form.Goals as goal

pub returns-clause-value : goal.returns-clause-value
returns-clause-value c = signal_value c.args.number _ c.in_ok-f.ensures
