use Rattle.std.proofs.Common.{◌≡◌, ◌+◌, ◌*◌, ◌≤◌, get_or}
use Rattle.gold_ntt.specs.Polynomial.{sum_to}
use Rattle.gold_ntt.proofs.dot.sum_of_products.Given as goal

abbrev pub invariant-loop-i : goal.invariant-loop-i
invariant-loop-i l = record {
  sum : l.low + 18446744073709551616 * l.high
      ≡ sum_to l.i (λ k. get_or l.a k 0 * get_or l.b k 0);
  low : l.low ≤ l.i * 18446744073709551616;
  high : l.high ≤ l.i * 18446744073709551616;
}
