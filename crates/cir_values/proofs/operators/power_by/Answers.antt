use Rattle.cir_values.proofs.Within.{at_quadratic}
use Rattle.cir_values.proofs.operators.power_by.Goals as goal

pub returns-in-Quadratic-clause-within : goal.returns-in-Quadratic-clause-within
returns-in-Quadratic-clause-within c =
    λ n w. c.quadratic_power.ensures.within n (at_quadratic n _ _ c.in-Quadratic.is w)
