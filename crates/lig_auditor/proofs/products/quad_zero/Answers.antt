use Rattle.std.proofs.Common.{◌≡◌, ℕ, ◌<◌, subst, arith}
use Rattle.std.proofs.lemmas.Bool.{both_ways}
use Rattle.lig_auditor.proofs.Matching.{ZeroTo, zero_next, zero_back, holds, fails}
use Rattle.lig_auditor.proofs.products.quad_zero.Goals as goal

pub returns-then-not-folds_to_zero : goal.returns-then-not-folds_to_zero
returns-then-not-folds_to_zero c =
    let low : c.loop-t.t < 2 = omega arith in
    let back =
    zero_back c.args.opening.now c.loop-t.t c.product_polynomial.result.now c.requires.params
    c.product_polynomial.ensures.value
    c.product_polynomial.ensures.count low in
    fails {A = ZeroTo c.args.opening.now 2}
    (λ all. both_ways c.folds_to_zero.result c.if-not-folds_to_zero.true
    (c.folds_to_zero.ensures.1 (back all)))

pub loop-t-preserved : goal.loop-t-preserved
loop-t-preserved c =
    zero_next c.args.opening.now c.loop-t.t c.product_polynomial.result.now c.requires.params
    c.product_polynomial.ensures.value
    c.product_polynomial.ensures.count c.loop-t.invariant
    (c.folds_to_zero.ensures.0 c.if-not-folds_to_zero.false)

pub returns : goal.returns
returns c =
    let is : c.loop-t.t ≡ 2 = omega arith in
    let To : ℕ → Type 0 = λ n. ZeroTo c.args.opening.now n in
    holds {A = ZeroTo c.args.opening.now 2} (subst To is c.loop-t.invariant)
