use Rattle.std.proofs.Common.{◌+◌, ◌*◌, ◌%◌, ◌<◌, ◌≡◌, ℕ, length, refl, ap, ◌∙◌, sym, arith}
use Rattle.gold_field.specs.declared.gold.TheConstants.{P}
use Rattle.gold_ntt.specs.Polynomial.{sum_to}
use Rattle.lig_proof.specs.Columns.{row_value, proximity_mask_value}
use Rattle.lig_proof.specs.Sent.{alpha}
use Rattle.lig_proof.proofs.Adding.{nothing_added}
use Rattle.lig_auditor.proofs.Adding.{read, in_part, next_product, on_top}
use Rattle.lig_auditor.proofs.codewords.proximity_value.Goals as goal

pub loop-k-init : goal.loop-k-init
loop-k-init c =
    nothing_added (λ i.
    alpha c.args.opening.now.params.now c.args.opening.now.challenges.now c.args.t i
    * row_value c.args.column.now i)

pub loop-k-preserved : goal.loop-k-preserved
loop-k-preserved c =
    let o = c.args.opening.now in
    let p = o.params.now in
    let k = c.loop-k.k in
    let low : k < p.rows = omega arith in
    let place : c.args.t * p.rows + k < length o.challenges.now.alpha =
    let part = in_part c.args.t p.rows k c.requires.repetition low in omega arith in
    let first =
    read c.as_slice-alpha.result.now o.challenges.now.alpha
    (c.args.t * p.rows + k) c.index-alpha-t.result c.as_slice-alpha.ensures place
    c.index-alpha-t.is in
    let second =
    read c.args.column.now c.args.column.now k c.index-column-k.result refl
    (omega arith) c.index-column-k.is in
    next_product (λ i. alpha p o.challenges.now c.args.t i * row_value c.args.column.now i) k
    c.loop-k.sum
    c.index-alpha-t.result c.index-column-k.result c.mul.result c.add-sum.result c.loop-k.invariant
    c.mul.ensures
    (ap (λ a. a * row_value c.args.column.now k) (sym first)
    ∙ ap (λ b. c.index-alpha-t.result * b) (sym second)) c.add-sum.ensures

pub returns : goal.returns
returns c =
    let o = c.args.opening.now in
    let p = o.params.now in
    let f : ℕ → ℕ = λ i. alpha p o.challenges.now c.args.t i * row_value c.args.column.now i in
    let is : c.loop-k.k ≡ p.rows = omega arith in
    let mask =
    read c.args.column.now c.args.column.now (p.rows + c.args.t) c.index-column-rows.result refl
    (omega arith) c.index-column-rows.is in
    on_top (proximity_mask_value p c.args.column.now c.args.t)
    (sum_to p.rows f) c.loop-k.sum c.add.result
    (c.loop-k.invariant ∙ ap (λ k. sum_to k f % P) is)
    (c.add.ensures ∙ ap (λ m. (m + c.loop-k.sum) % P) mask)
