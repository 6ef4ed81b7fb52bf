use Rattle.std.proofs.Common.{◌≡◌, ℕ, ◌<◌, ◌+◌, ◌*◌, ◌%◌, List, length, drop, get_or, subst}
use Rattle.std.proofs.Common.{◌∙◌, refl, sym, ap, arith, rules}
use Rattle.gold_field.specs.declared.gold.TheConstants.{P}
use Rattle.gold_ntt.specs.Polynomial.{sum_to}
use Rattle.lig_layout.specs.System.{equation_count}
use Rattle.lig_auditor.proofs.Matching.{holds, fails}
use Rattle.lig_auditor.proofs.RightSums.{SumsTo, sums_next, sums_back, unequal, equal, rest_all}
use Rattle.lig_auditor.proofs.right_sides.linear_sum.Goals as goal

pub slice_bounds-known_sum-count : goal.slice_bounds-known_sum-count
slice_bounds-known_sum-count c =
    let count = c.r_numbers-r.ensures.count (equation_count c.args.file.now) c.requires.numbers in
    search rules

pub slice_bounds-known_sum-start : goal.slice_bounds-known_sum-start
slice_bounds-known_sum-start c =
    let count = c.r_numbers-r.ensures.count (equation_count c.args.file.now) c.requires.numbers in
    search rules

pub known_sum-requires : goal.known_sum-requires
known_sum-requires c =
    let count = c.r_numbers-r.ensures.count (equation_count c.args.file.now) c.requires.numbers in
    search rules

pub returns-then-ne : goal.returns-then-ne
returns-then-ne c =
    let f = c.args.file.now in
    let publics = c.args.publics.now in
    let o = c.args.opening.now in
    let t = c.loop-t.t in
    let low : t < 2 = omega arith in
    let from : List ℕ
    → ℕ = λ rest.
    (get_or rest 0 0
    + sum_to (length publics) (λ k. get_or rest (1 + k) 0 * get_or publics k 0)) % P in
    let sums : ℕ → ℕ = λ m. from (drop m c.r_numbers-r.result.now) in
    let right : c.known_sum.result ≡ sums (3 * length f.constraints) =
    c.known_sum.ensures
    ∙ ap from
    (rest_all (3 * length c.constraints-constraints.result.now) c.r_numbers-r.result.now)
    ∙ ap (λ ks. sums (3 * length ks)) c.constraints-constraints.ensures.constraints in
    let back =
    sums_back f publics o t (equation_count f) c.r_numbers-r.result.now
    c.linear_polynomial.result.now c.sum_of_values-sum.result c.known_sum.result
    c.requires.opening.params c.requires.publics refl
    (c.r_numbers-r.ensures.value (equation_count f) c.requires.numbers)
    c.linear_polynomial.ensures.value c.linear_polynomial.ensures.count
    c.sum_of_values-sum.ensures right low in
    fails {A = SumsTo f publics o 2}
    (λ all. unequal c.sum_of_values-sum.result c.known_sum.result (sym c.ne.ensures
    ∙ c.if-ne.true) (back all))

pub loop-t-preserved : goal.loop-t-preserved
loop-t-preserved c =
    let f = c.args.file.now in
    let publics = c.args.publics.now in
    let o = c.args.opening.now in
    let t = c.loop-t.t in
    let low : t < 2 = omega arith in
    let from : List ℕ
    → ℕ = λ rest.
    (get_or rest 0 0
    + sum_to (length publics) (λ k. get_or rest (1 + k) 0 * get_or publics k 0)) % P in
    let sums : ℕ → ℕ = λ m. from (drop m c.r_numbers-r.result.now) in
    let right : c.known_sum.result ≡ sums (3 * length f.constraints) =
    c.known_sum.ensures
    ∙ ap from
    (rest_all (3 * length c.constraints-constraints.result.now) c.r_numbers-r.result.now)
    ∙ ap (λ ks. sums (3 * length ks)) c.constraints-constraints.ensures.constraints in
    sums_next f publics o t (equation_count f) c.r_numbers-r.result.now
    c.linear_polynomial.result.now c.sum_of_values-sum.result c.known_sum.result
    c.requires.opening.params c.requires.publics refl
    (c.r_numbers-r.ensures.value (equation_count f) c.requires.numbers)
    c.linear_polynomial.ensures.value c.linear_polynomial.ensures.count
    c.sum_of_values-sum.ensures right
    c.loop-t.invariant
    (equal c.sum_of_values-sum.result c.known_sum.result (sym c.ne.ensures ∙ c.if-ne.false))

pub returns : goal.returns
returns c =
    let is : c.loop-t.t ≡ 2 = omega arith in
    let To : ℕ → Type 0 = λ n. SumsTo c.args.file.now c.args.publics.now c.args.opening.now n in
    holds {A = SumsTo c.args.file.now c.args.publics.now c.args.opening.now 2}
    (subst To is c.loop-t.invariant)
