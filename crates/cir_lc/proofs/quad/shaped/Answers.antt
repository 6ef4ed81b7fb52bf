use Rattle.cir_lc.proofs.Normals.{normal_neither, same_within}
use Rattle.cir_lc.proofs.quad.shaped.Goals as goal

pub returns-in_ok-c-clause-shape : goal.returns-in_ok-c-clause-shape
returns-in_ok-c-clause-shape c =
    normal_neither _ _ c.in_default.ensures c.in_default-constant.ensures c.in_ok-a.ensures
    c.in_ok-b.ensures c.in_ok-c.ensures.value

pub returns-in_ok-c-clause-within : goal.returns-in_ok-c-clause-within
returns-in_ok-c-clause-within c = λ m w. (
  same_within m _ _ c.in_ok-a.ensures w.0,
  same_within m _ _ c.in_ok-b.ensures w.1,
  c.in_ok-c.ensures.within m w.2,
)
