use Rattle.std.proofs.Common.{◌≡◌, ◌*◌, ℕ, sym, ap, ◌∙◌, arith, get_or}
use Rattle.gold_ntt.proofs.Dots.{high_word, one_more_product, read_there}
use Rattle.gold_ntt.proofs.Sums.{sum_to-zero}
use Rattle.gold_ntt.proofs.dot.sum_of_products.Goals as goal

pub loop-i-init : goal.loop-i-init
loop-i-init c = record {
  sum = sym (sum_to-zero (λ k. get_or c.args.a.now k 0 * get_or c.args.b.now k 0));
  low = omega arith;
  high = omega arith;
}

pub loop-i-preserved : goal.loop-i-preserved
loop-i-preserved c =
    let a = c.args.a.now in
    let b = c.args.b.now in
    let i = c.loop-i.i in
    let x = c.from.result in
    let y = c.from-in-loop-i.result in
    let first : x ≡ get_or a i 0 =
    read_there a i c.index-a-i.result c.get.result x (omega arith) c.index-a-i.is
    c.get.ensures.value c.from.ensures in
    let second : y ≡ get_or b i 0 =
    read_there b i c.index-b-i.result c.get-in-loop-i.result y (omega arith) c.index-b-i.is
    c.get-in-loop-i.ensures.value c.from-in-loop-i.ensures in
    let last : get_or a i 0 * get_or b i 0 ≡ x * y =
    sym (ap (λ (z : ℕ). z * y) first ∙ ap (λ (z : ℕ). get_or a i 0 * z) second) in
    record {
      sum = one_more_product c.loop-i.low c.loop-i.high i x y
          (λ k. get_or a k 0 * get_or b k 0) c.loop-i.invariant.sum last;
      low = omega arith;
      high =
          let word = high_word x y
          (omega (arith, c.from.ensures, c.get.type_inv))
          (omega (arith, c.from-in-loop-i.ensures, c.get-in-loop-i.type_inv)) in
          omega (arith, word, c.loop-i.invariant.high);
    }
