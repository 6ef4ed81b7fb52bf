use Rattle.cir_values.proofs.Within.{at_linear, at_quadratic}
use Rattle.cir_values.proofs.value.linear_difference.Goals as goal

pub returns-in_ok-h-in-Linear-clause-within : goal.returns-in_ok-h-in-Linear-clause-within
returns-in_ok-h-in-Linear-clause-within c =
    λ n p w v. c.in_ok-h-in-Linear.ensures.within n w (at_linear n _ _ c.in-Linear.is v)

pub returns-in_ok-c-in-Quadratic-clause-within : goal.returns-in_ok-c-in-Quadratic-clause-within
returns-in_ok-c-in-Quadratic-clause-within c = λ n p w v.
    let q = at_quadratic n _ _ c.in-Quadratic.is v in (
      c.in_ok-a-in-Quadratic.ensures.within n q.0,
      q.1,
      c.in_ok-c-in-Quadratic.ensures.within n w q.2,
    )
