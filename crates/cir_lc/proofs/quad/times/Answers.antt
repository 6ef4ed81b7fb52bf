use Rattle.std.proofs.Common.{◌∙◌}
use Rattle.cir_lc.proofs.Normals.{times_value}
use Rattle.cir_lc.proofs.quad.times.Goals as goal

pub returns-clause-value : goal.returns-clause-value
returns-clause-value c =
    times_value _ _ _ _ _ c.in_ok-left.ensures c.in_ok-right.ensures
    (c.of.ensures ∙ c.new.ensures.items)
