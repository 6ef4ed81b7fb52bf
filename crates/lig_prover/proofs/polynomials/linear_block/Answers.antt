use Rattle.std.proofs.Common.{◌*◌, ◌/◌, length, get_or, ap, ◌∙◌, arith}
use Rattle.lig_prover.specs.Matrix.{linear_value}
use Rattle.lig_prover.proofs.Placing.{block_made, block_fits, zero_at}
use Rattle.lig_prover.proofs.polynomials.linear_block.Goals as goal

pub overflow_mul-first : goal.overflow_mul-first
overflow_mul-first c =
    let greatest = c.requires.params.greatest in
    omega (arith, block_fits c.args.b c.args.params.now.l (omega arith) greatest)

pub linear_sums-requires-clause-zeros : goal.linear_sums-requires-clause-zeros
linear_sums-requires-clause-zeros c = λ i low.
    ap (λ xs. get_or xs i 0)
    (c.deref_mut.ensures.value ∙ c.in_ok-sums.ensures.items_if_clones_equal (λ y same. same))
    ∙ zero_at (c.args.params.now.l / 8) i

pub linear_sums-requires-clause-small : goal.linear_sums-requires-clause-small
linear_sums-requires-clause-small c =
    let greatest = c.requires.params.greatest in
    let lent = ap length c.deref_mut.ensures.value in
    let ok = c.in_ok-sums.sums.ok.0 in
    let len = c.in_ok-sums.ensures.len in
    omega (arith, block_fits c.args.b c.args.params.now.l (omega arith) greatest, lent, ok, len)

pub returns : goal.returns
returns c =
    let p = c.args.params.now in
    let size = p.l / 8 in
    let sums = c.in_ok-sums.sums in
    let ok = sums.ok.0 in
    let len = c.in_ok-sums.ensures.len in
    let lent = ap length c.deref_mut.ensures.value in
    c.of.ensures
    ∙ block_made
    (λ j. linear_value p c.args.codewords.now c.args.factors.now c.args.t (2 * j) j)
    c.args.b size sums.len c.linear_sums.new.sums sums.items ok
    (c.linear_sums.auto.sums ∙ lent)
    (omega (arith, ok, len)) (λ i low. c.linear_sums.ensures i (omega (arith, lent)))
