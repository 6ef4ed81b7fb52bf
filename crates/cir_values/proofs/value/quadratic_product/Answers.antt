use Rattle.cir_values.proofs.value.quadratic_product.Goals as goal

pub returns-in_ok-scaled-in-Known-clause-within : goal.returns-in_ok-scaled-in-Known-clause-within
returns-in_ok-scaled-in-Known-clause-within c =
    λ n p w v. c.in_ok-scaled-in-Known.ensures.within n w
