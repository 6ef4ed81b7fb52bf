use Rattle.cir_values.proofs.value.scaled_quad.Goals as goal

pub returns-clause-within : goal.returns-clause-within
returns-clause-within c =
    λ n w. (c.in_ok-a.ensures.within n w.0, w.1, c.in_ok-c.ensures.within n w.2)
