use Rattle.cir_values.proofs.value.linear_product.Goals as goal

pub returns-in_ok-g-in-Known-clause-within : goal.returns-in_ok-g-in-Known-clause-within
returns-in_ok-g-in-Known-clause-within c = λ n p w v. c.in_ok-g-in-Known.ensures.within n w
