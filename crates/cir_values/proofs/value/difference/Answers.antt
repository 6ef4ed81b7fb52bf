use Rattle.std.proofs.Common.{subst}
use Rattle.cir_values.specs.declared.value.Value.{Value}
use Rattle.cir_values.specs.Meant.{IsValueWithin}
use Rattle.cir_values.proofs.Within.{at_quadratic}
use Rattle.cir_values.proofs.value.difference.Goals as goal

pub returns-in_ok-v-in-Known-clause-within : goal.returns-in_ok-v-in-Known-clause-within
returns-in_ok-v-in-Known-clause-within c = λ n p w v.
    c.in_ok-v-in-Known.ensures.within n p
    (subst (λ (z : Value). IsValueWithin n z) c.in-Known.is w)
    (c.in_ok-minus_y-in-Known.ensures.within n p v)

pub returns-in_ok-v-in-Quadratic-clause-within : goal.returns-in_ok-v-in-Quadratic-clause-within
returns-in_ok-v-in-Quadratic-clause-within c = λ n p w v.
    c.in_ok-v-in-Quadratic.ensures.within n p (at_quadratic n _ _ c.in-Quadratic.is w)
    (c.in_ok-minus_y-in-Quadratic.ensures.within n p v)
