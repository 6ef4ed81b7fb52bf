use Rattle.std.proofs.Common.{◌∙◌}
use Rattle.cir_values.proofs.Within.{none_value}
use Rattle.cir_values.proofs.value.zero.Goals as goal

pub returns-clause-value : goal.returns-clause-value
returns-clause-value c = none_value _ (c.of.ensures ∙ c.new.ensures.items)
