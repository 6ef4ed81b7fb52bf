use Rattle.std.proofs.Common.{◌<◌, ◌+◌, ◌*◌, ◌%◌, ℕ, length, get_or, ap, ◌∙◌, arith}
use Rattle.std.proofs.Math.Nat.{mod-mod}
use Rattle.gold_field.specs.declared.gold.TheConstants.{P}
use Rattle.lig_prover.specs.Matrix.{entry_of}
use Rattle.lig_proof.proofs.Adding.{nothing_added}
use Rattle.lig_prover.proofs.Placing.{one_more, with_start}
use Rattle.lig_prover.proofs.polynomials.linear_sums.Goals as goal

pub loop-k-init : goal.loop-k-init
loop-k-init c = λ i low. let j = c.args.first + i in
    c.requires.zeros i low ∙ nothing_added (λ k. entry_of c.args.factors.now k j
    * entry_of c.args.codewords.now k (2 * j))

pub loop-k-preserved : goal.loop-k-preserved
loop-k-preserved c = λ i low.
    let j = c.args.first + i in
    let sums = c.loop-k.sums in
    let inside : i < length sums = omega (arith, c.add_each.auto.sums) in
    let factor = c.row_in-factor.result.now in
    let codeword = c.row_in-codeword.result.now in
    let term = λ (j : ℕ). get_or factor j 0 * get_or codeword (2 * j) 0 in
    one_more c.loop-k.k (get_or sums i 0) (term j) (get_or c.add_each.new.sums i 0)
    (λ k. entry_of c.args.factors.now k j * entry_of c.args.codewords.now k (2 * j))
    (c.loop-k.invariant i inside)
    (λ t. get_or (c.row_in-factor.ensures t) j 0 * get_or (c.row_in-codeword.ensures t) (2 * j) 0)
    (c.add_each.ensures term (λ j x is. ap (λ y. y % P) is ∙ mod-mod (term j) P) i inside)

pub returns : goal.returns
returns c = λ i low.
    let j = c.args.first + i in
    let rows = c.args.params.now.rows in
    let sums = c.loop-k.sums in
    let inside : i < length sums = omega (arith, c.loop-k.auto.sums) in
    let mask = c.row_in-mask.result.now in
    with_start (entry_of c.args.codewords.now (rows + 2 + c.args.t) (2 * j)) (get_or sums i 0)
    c.loop-k.k rows (get_or c.add_each-2.new.sums i 0)
    (λ k. entry_of c.args.factors.now k j * entry_of c.args.codewords.now k (2 * j))
    (c.loop-k.invariant i inside) c.loop-k.auto.k-end c.loop-k-test.false
    (c.add_each-2.ensures (λ j. get_or mask (2 * j) 0) (λ j x is. ap (λ y. y % P) is) i inside
    ∙ ap (λ xs. (get_or sums i 0 + get_or xs (2 * j) 0) % P) c.row_in-mask.ensures)
