use Rattle.cir_values.proofs.Within.{at_linear, at_quadratic}
use Rattle.cir_values.proofs.value.negative.Goals as goal

pub returns-in_ok-g-in-Linear-clause-within : goal.returns-in_ok-g-in-Linear-clause-within
returns-in_ok-g-in-Linear-clause-within c =
    λ n p w. c.in_ok-g-in-Linear.ensures.within n (at_linear n _ _ c.in-Linear.is w)

pub returns-in_ok-c-in-Quadratic-clause-within : goal.returns-in_ok-c-in-Quadratic-clause-within
returns-in_ok-c-in-Quadratic-clause-within c = λ n p w.
    let q = at_quadratic n _ _ c.in-Quadratic.is w in
    (c.in_ok-a-in-Quadratic.ensures.within n q.0, q.1, c.in_ok-c-in-Quadratic.ensures.within n q.2)
