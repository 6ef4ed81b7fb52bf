use Rattle.std.proofs.Common.{refl}
use Rattle.cir_lc.proofs.Normals.{normal_left, normal_right, normal_neither, linear_of}
use Rattle.cir_lc.proofs.Normals.{linear_within, negated_back}
use Rattle.cir_lc.proofs.quad.settled.Goals as goal

pub returns-in_ok-c-clause-shape : goal.returns-in_ok-c-clause-shape
returns-in_ok-c-clause-shape c = λ d h.
    normal_left (record { a = c.args.a; b = c.args.b; c = d }) _ _ c.in-Some.ensures
    (linear_of _ _ c.args.rest d _ _ c.without_factors.ensures c.in_ok-c.ensures.value
    (negated_back d c.args.rest h))

pub returns-in_ok-c-clause-within : goal.returns-in_ok-c-clause-within
returns-in_ok-c-clause-within c = λ m a b r.
    linear_within m _ _ c.without_factors.ensures (c.in_ok-c.ensures.within m r b)

pub returns-in_ok-c-2-clause-shape : goal.returns-in_ok-c-2-clause-shape
returns-in_ok-c-2-clause-shape c = λ d h.
    normal_right (record { a = c.args.a; b = c.args.b; c = d }) _ _ c.in_default.ensures
    c.in-Some-constant.ensures
    (linear_of _ _ c.args.rest d _ _ c.without_factors-in-Some-constant.ensures
    c.in_ok-c-2.ensures.value (negated_back d c.args.rest h))

pub returns-in_ok-c-2-clause-within : goal.returns-in_ok-c-2-clause-within
returns-in_ok-c-2-clause-within c = λ m a b r.
    linear_within m _ _ c.without_factors-in-Some-constant.ensures
    (c.in_ok-c-2.ensures.within m r a)

pub returns-in_default-constant-clause-shape : goal.returns-in_default-constant-clause-shape
returns-in_default-constant-clause-shape c = λ d h.
    normal_neither (record { a = c.args.a; b = c.args.b; c = d }) _ c.in_default.ensures
    c.in_default-constant.ensures refl refl (negated_back d c.args.rest h)
