use Rattle.cir_values.proofs.Within.{at_linear, at_quadratic}
use Rattle.cir_values.proofs.value.times_known.Goals as goal

pub returns-in_ok-g-in-Linear-clause-within : goal.returns-in_ok-g-in-Linear-clause-within
returns-in_ok-g-in-Linear-clause-within c =
    λ n w. c.in_ok-g-in-Linear.ensures.within n (at_linear n _ _ c.in-Linear.is w)

pub returns-in_ok-scaled-in-Quadratic-clause-within :
    goal.returns-in_ok-scaled-in-Quadratic-clause-within
returns-in_ok-scaled-in-Quadratic-clause-within c =
    λ n w. c.in_ok-scaled-in-Quadratic.ensures.within n (at_quadratic n _ _ c.in-Quadratic.is w)
