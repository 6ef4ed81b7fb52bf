use Rattle.std.proofs.Common.{◌≡◌, ℕ, ◌+◌, ◌*◌, ◌%◌, ◌<◌, length, get_or, refl, ap, ◌∙◌, sym, arith}
use Rattle.gold_field.specs.declared.gold.TheConstants.{P}
use Rattle.gold_ntt.specs.Polynomial.{sum_to}
use Rattle.lig_proof.proofs.Adding.{nothing_added}
use Rattle.lig_auditor.proofs.Adding.{read, next_product, on_top}
use Rattle.lig_auditor.proofs.right_sides.known_sum.Goals as goal

pub loop-k-init : goal.loop-k-init
loop-k-init c =
    nothing_added (λ i. get_or c.args.numbers.now (1 + i) 0 * get_or c.args.publics.now i 0)

pub loop-k-preserved : goal.loop-k-preserved
loop-k-preserved c =
    let numbers = c.args.numbers.now in
    let publics = c.args.publics.now in
    let k = c.loop-k.k in
    let low : k < length publics = omega arith in
    let first =
    read numbers numbers (1 + k) c.index-numbers-k.result refl
    (omega arith) c.index-numbers-k.is in
    let second = read publics publics k c.index-publics-k.result refl low c.index-publics-k.is in
    next_product (λ i. get_or numbers (1 + i) 0 * get_or publics i 0) k c.loop-k.sum
    c.index-numbers-k.result c.index-publics-k.result
    c.mul.result c.add-sum.result c.loop-k.invariant c.mul.ensures
    (ap (λ a. a * get_or publics k 0) (sym first)
    ∙ ap (λ b. c.index-numbers-k.result * b) (sym second)) c.add-sum.ensures

pub returns : goal.returns
returns c =
    let numbers = c.args.numbers.now in
    let publics = c.args.publics.now in
    let f : ℕ → ℕ = λ i. get_or numbers (1 + i) 0 * get_or publics i 0 in
    let is : c.loop-k.k ≡ length publics = omega arith in
    let first =
    read numbers numbers 0 c.index-numbers-0.result refl (omega arith) c.index-numbers-0.is in
    on_top (get_or numbers 0 0) (sum_to (length publics) f) c.loop-k.sum c.add.result
    (c.loop-k.invariant ∙ ap (λ k. sum_to k f % P) is)
    (c.add.ensures ∙ ap (λ m. (m + c.loop-k.sum) % P) first)
