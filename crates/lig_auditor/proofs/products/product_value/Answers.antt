use Rattle.std.proofs.Common.{◌+◌, ◌*◌, ◌%◌, ◌<◌, ◌≡◌, ℕ, length, refl, ap, ◌∙◌, sym, arith}
use Rattle.gold_field.specs.declared.gold.TheConstants.{P}
use Rattle.gold_ntt.specs.Polynomial.{sum_to}
use Rattle.lig_proof.specs.Audit.{excess}
use Rattle.lig_proof.specs.Columns.{product_mask_value}
use Rattle.lig_proof.specs.Sent.{rho}
use Rattle.lig_proof.proofs.Adding.{nothing_added}
use Rattle.lig_auditor.proofs.Adding.{read, in_part, next_reduced, on_top}
use Rattle.lig_auditor.proofs.products.product_value.Goals as goal

pub loop-k-init : goal.loop-k-init
loop-k-init c =
    nothing_added (λ i.
    rho c.args.opening.now.params.now c.args.opening.now.challenges.now c.args.t i
    * excess c.args.opening.now.params.now c.args.column.now i)

pub loop-k-preserved : goal.loop-k-preserved
loop-k-preserved c =
    let o = c.args.opening.now in
    let p = o.params.now in
    let k = c.loop-k.k in
    let n = p.constraint_rows in
    let low : k < n = omega arith in
    let place : c.args.t * n + k < length o.challenges.now.rho =
    let part = in_part c.args.t n k c.requires.repetition low in omega arith in
    let first =
    read c.as_slice-rho.result.now o.challenges.now.rho (c.args.t * n + k) c.index-rho-t.result
    c.as_slice-rho.ensures place c.index-rho-t.is in
    next_reduced (λ i. rho p o.challenges.now c.args.t i * excess p c.args.column.now i) k
    c.loop-k.sum
    c.index-rho-t.result (excess p c.args.column.now k) c.excess.result c.mul.result
    c.add-sum.result c.loop-k.invariant c.excess.ensures c.mul.ensures
    (ap (λ a. a * excess p c.args.column.now k) (sym first)) c.add-sum.ensures

pub returns : goal.returns
returns c =
    let o = c.args.opening.now in
    let p = o.params.now in
    let f : ℕ → ℕ = λ i. rho p o.challenges.now c.args.t i * excess p c.args.column.now i in
    let is : c.loop-k.k ≡ p.constraint_rows = omega arith in
    let mask =
    read c.args.column.now c.args.column.now
    (p.rows + 4 + c.args.t) c.index-column-opening.result refl
    (omega arith) c.index-column-opening.is in
    on_top (product_mask_value p c.args.column.now c.args.t)
    (sum_to p.constraint_rows f) c.loop-k.sum c.add.result
    (c.loop-k.invariant ∙ ap (λ k. sum_to k f % P) is)
    (c.add.ensures ∙ ap (λ m. (m + c.loop-k.sum) % P) mask)
