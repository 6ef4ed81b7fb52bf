use Rattle.cir_values.proofs.Within.{at_linear, at_quadratic}
use Rattle.cir_values.proofs.value.known_sum.Goals as goal

pub returns-in_ok-h-in-Linear-clause-within : goal.returns-in_ok-h-in-Linear-clause-within
returns-in_ok-h-in-Linear-clause-within c = λ n p j w.
    c.in_ok-h-in-Linear.ensures.within n (c.in_ok-f-in-Linear.ensures.within n p)
    (at_linear n _ _ c.in-Linear.is w)

pub returns-in_ok-c-in-Quadratic-clause-within : goal.returns-in_ok-c-in-Quadratic-clause-within
returns-in_ok-c-in-Quadratic-clause-within c = λ n p j w.
    let q = at_quadratic n _ _ c.in-Quadratic.is w in (
      q.0,
      q.1,
      c.in_ok-c-in-Quadratic.ensures.within n (c.in_ok-f-in-Quadratic.ensures.within n p) q.2,
    )
