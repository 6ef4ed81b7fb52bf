use Rattle.std.proofs.Common.{ap, ◌∙◌}
use Rattle.cir_lc.specs.Number.{Number, value_of}
use Rattle.cir_meaning.specs.Values.{Quadratic}
use Rattle.cir_values.proofs.Within.{at_linear, added_turned}
use Rattle.cir_values.proofs.value.quadratic_sum.Goals as goal

pub returns-in-Known-clause-within : goal.returns-in-Known-clause-within
returns-in-Known-clause-within c =
    λ n p w v.
    (w.0, w.1, c.in_ok-c-in-Known.ensures.within n w.2 (c.in_ok-g-in-Known.ensures.within n p))

pub returns-in-Linear-clause-within : goal.returns-in-Linear-clause-within
returns-in-Linear-clause-within c =
    λ n p w v.
    (w.0, w.1, c.in_ok-c-in-Linear.ensures.within n (at_linear n _ _ c.in-Linear.is v) w.2)

pub returns-in-Linear-clause-value : goal.returns-in-Linear-clause-value
returns-in-Linear-clause-value c =
    rw c.in-Linear.is
    (ap (λ (f : Number). Quadratic (value_of c.args.q.a) (value_of c.args.q.b) f)
    (c.in_ok-c-in-Linear.ensures.value ∙ added_turned _ _))
