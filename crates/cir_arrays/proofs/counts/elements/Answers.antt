use Rattle.std.proofs.Common.{◌≡◌, ℕ, ◌+◌, ◌*◌, ◌<◌, List, drop, length, get_or, ◌∙◌, arith}
use Rattle.std.proofs.lemmas.List.{at_drop_more, at_drop_all}
use Rattle.cir_meaning.specs.Places.{elements}
use Rattle.cir_meaning.specs.Limits.{standing}
use Rattle.cir_arrays.proofs.Products.{product_step}
use Rattle.cir_arrays.proofs.counts.elements.Goals as goal

pub loop-d-preserved : goal.loop-d-preserved
loop-d-preserved c =
    let xs : List ℕ = c.args.dims.now in
    let i : ℕ = c.loop-d.d-index in
    let h : i < length xs = c.loop-d-test.true in
    let e : elements (drop i xs) ≡ get_or xs i 0 * elements (drop (i + 1) xs) =
    at_drop_more elements xs i 0 h in
    let t = product_step c.loop-d.count (get_or xs i 0) (elements (drop (i + 1) xs))
    (standing (elements xs)) c.saturating_mul-count.result (rw e at c.loop-d.invariant.some)
    (rw e at c.loop-d.invariant.product) c.saturating_mul-count.ensures in
    record { some = t.0; product = t.1; small = omega (arith, c.saturating_mul-count.ensures) }

pub returns : goal.returns
returns c =
    let xs : List ℕ = c.args.dims.now in
    let e : elements (drop c.loop-d.d-index xs) ≡ 1 =
    at_drop_all elements xs c.loop-d.d-index (omega arith) in
    c.loop-d.invariant.small ∙ (let p = rw e at c.loop-d.invariant.product in omega (arith, p))
