use Rattle.std.proofs.Common.{◌+◌, ◌*◌, ◌%◌, ◌<◌, ◌≡◌, ℕ, [], length, get_or}
use Rattle.std.proofs.Common.{ap, ◌∙◌, sym, arith}
use Rattle.gold_field.specs.declared.gold.TheConstants.{P}
use Rattle.gold_ntt.specs.Polynomial.{sum_to, eval_at}
use Rattle.lig_proof.specs.Columns.{row_value, linear_mask_value}
use Rattle.lig_proof.specs.Points.{code_point}
use Rattle.lig_proof.proofs.Adding.{nothing_added}
use Rattle.lig_auditor.proofs.Adding.{read, next_product, on_top}
use Rattle.lig_auditor.proofs.system.combined_rows.Goals as goal

pub sum_of_products-value-requires-clause-same : goal.sum_of_products-value-requires-clause-same
sum_of_products-value-requires-clause-same c = c.requires.count ∙ sym c.row_at.ensures.width

pub sum_of_products-value-requires-clause-small : goal.sum_of_products-value-requires-clause-small
sum_of_products-value-requires-clause-small c =
    let greatest = c.requires.opening.params.greatest in
    let width = c.row_at.ensures.width in
    omega arith

pub loop-k-init : goal.loop-k-init
loop-k-init c = λ rows are.
    let o = c.args.opening.now in
    let x = code_point o.params.now (get_or o.indices.now c.args.q 0) in
    nothing_added (λ k. eval_at (rows k) x * row_value (get_or o.columns.now c.args.q []) k)

pub loop-k-preserved : goal.loop-k-preserved
loop-k-preserved c = λ rows are.
    let o = c.args.opening.now in
    let p = o.params.now in
    let q = c.args.q in
    let k = c.loop-k.k in
    let column = get_or o.columns.now q [] in
    let x = code_point p (get_or o.indices.now q 0) in
    let f : ℕ → ℕ = λ k. eval_at (rows k) x * row_value column k in
    let low : k < p.rows = omega arith in
    let weights = c.args.weights.now in
    let wide = ap length c.column-column.ensures.value in
    let entry =
    read c.column-column.result.now column k c.index-column-k.result c.column-column.ensures.value
    (omega (arith, wide, c.column-column.ensures.width, low)) c.index-column-k.is in
    let value : c.sum_of_products-value.result ≡ eval_at (rows k) x =
    c.sum_of_products-value.ensures
    ∙ ap (λ n. sum_to n (λ i. get_or c.row_at.result.now i 0 * get_or weights i 0) % P)
    c.row_at.ensures.width
    ∙ ap (λ row. sum_to p.l (λ i. get_or row i 0 * get_or weights i 0) % P) c.row_at.ensures.row
    ∙ c.requires.weighs _ (rows k) (are k low) in
    let term : f k ≡ c.sum_of_products-value.result * c.index-column-k.result =
    sym (ap (λ e. e * c.index-column-k.result) value
    ∙ ap (λ v. eval_at (rows k) x * v) entry) in
    next_product f k c.loop-k.sum c.sum_of_products-value.result c.index-column-k.result
    c.mul.result c.add-sum.result (c.loop-k.invariant rows are) c.mul.ensures term
    c.add-sum.ensures

pub returns : goal.returns
returns c = λ rows are.
    let o = c.args.opening.now in
    let p = o.params.now in
    let q = c.args.q in
    let column = get_or o.columns.now q [] in
    let x = code_point p (get_or o.indices.now q 0) in
    let f : ℕ → ℕ = λ k. eval_at (rows k) x * row_value column k in
    let is : c.loop-k.k ≡ p.rows = omega arith in
    let width = c.column-column.ensures.width in
    let mask =
    read c.column-column.result.now column (p.rows + 2 + c.args.t) c.index-column-opening.result
    c.column-column.ensures.value (omega (arith, ap length c.column-column.ensures.value, width))
    c.index-column-opening.is in
    on_top (linear_mask_value p column c.args.t) (sum_to p.rows f) c.loop-k.sum c.add.result
    (c.loop-k.invariant rows are ∙ ap (λ k. sum_to k f % P) is)
    (c.add.ensures ∙ ap (λ m. (m + c.loop-k.sum) % P) mask)
