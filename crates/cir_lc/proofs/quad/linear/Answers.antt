use Rattle.cir_lc.proofs.Normals.{linear_of, linear_within}
use Rattle.cir_lc.proofs.quad.linear.Goals as goal

pub returns-clause-shape : goal.returns-clause-shape
returns-clause-shape c =
    linear_of _ _ _ _ _ _ c.without_factors.ensures c.in_ok-c.ensures.value
    c.in_ok-rest.ensures.value

pub returns-clause-within : goal.returns-clause-within
returns-clause-within c = λ m f r.
    linear_within m _ _ c.without_factors.ensures
    (c.in_ok-c.ensures.within m (c.in_ok-rest.ensures.within m r) f)
