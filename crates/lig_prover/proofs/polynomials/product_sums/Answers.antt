use Rattle.std.proofs.Common.{◌<◌, ◌+◌, ◌-◌, ◌*◌, ◌%◌, ℕ, length, get_or, ap, ◌∙◌, arith}
use Rattle.std.proofs.Math.Nat.{mod-mod}
use Rattle.gold_field.specs.declared.gold.TheConstants.{P}
use Rattle.lig_prover.specs.Matrix.{entry_of}
use Rattle.lig_proof.proofs.Adding.{nothing_added}
use Rattle.lig_prover.proofs.Adding.{excess_of}
use Rattle.lig_prover.proofs.Placing.{one_more, with_start}
use Rattle.lig_prover.proofs.polynomials.product_sums.Goals as goal

pub loop-k-init : goal.loop-k-init
loop-k-init c = λ i low.
    c.requires.zeros i low ∙ nothing_added (excess_of c.args.params.now c.args.challenges.now
    c.args.codewords.now c.args.t (2 * (c.args.first + i)))

pub loop-k-preserved : goal.loop-k-preserved
loop-k-preserved c = λ i low.
    let p = c.args.params.now in
    let j = c.args.first + i in
    let sums = c.loop-k.sums in
    let inside : i < length sums = omega (arith, c.add_each.auto.sums) in
    let place = c.args.t * p.constraint_rows + c.loop-k.k in
    let number = c.number_in-number.ensures ∙ ap (λ xs. get_or xs place 0) c.as_slice.ensures in
    let x = c.row_in-x.result.now in
    let y = c.row_in-y.result.now in
    let z = c.row_in-z.result.now in
    let form = λ (n x y z : ℕ). n * (x * y + (P - z)) in
    let term = λ (j : ℕ). form c.number_in-number.result (get_or x (2 * j) 0)
    (get_or y (2 * j) 0) (get_or z (2 * j) 0) in
    one_more c.loop-k.k (get_or sums i 0) (term j) (get_or c.add_each.new.sums i 0)
    (excess_of p c.args.challenges.now c.args.codewords.now c.args.t (2 * j))
    (c.loop-k.invariant i inside)
    (λ t. form (number t) (get_or (c.row_in-x.ensures t) (2 * j) 0)
    (get_or (c.row_in-y.ensures t) (2 * j) 0) (get_or (c.row_in-z.ensures t) (2 * j) 0))
    (c.add_each.ensures term (λ j x is. ap (λ y. y % P) is ∙ mod-mod (term j) P) i inside)

pub returns : goal.returns
returns c = λ i low.
    let p = c.args.params.now in
    let j = c.args.first + i in
    let sums = c.loop-k.sums in
    let inside : i < length sums = omega (arith, c.loop-k.auto.sums) in
    let mask = c.row_in-mask.result.now in
    with_start (entry_of c.args.codewords.now (p.rows + 4 + c.args.t) (2 * j)) (get_or sums i 0)
    c.loop-k.k p.constraint_rows (get_or c.add_each-2.new.sums i 0)
    (excess_of p c.args.challenges.now c.args.codewords.now c.args.t (2 * j))
    (c.loop-k.invariant i inside) c.loop-k.auto.k-end c.loop-k-test.false
    (c.add_each-2.ensures (λ j. get_or mask (2 * j) 0) (λ j x is. ap (λ y. y % P) is) i inside
    ∙ ap (λ xs. (get_or sums i 0 + get_or xs (2 * j) 0) % P) c.row_in-mask.ensures)
