use Rattle.std.proofs.Common.{◌≡◌, ℕ, ◌*◌, ◌%◌, ◌<◌, ◌≤◌, get_or}
use Rattle.gold_field.specs.declared.gold.TheConstants.{P}
use Rattle.gold_ntt.proofs.polynomial.multiply.Given as goal

abbrev pub invariant-loop-k : goal.invariant-loop-k
invariant-loop-k l = record {
  done : (j : ℕ) → j < l.k → get_or l.a j 0 ≡ get_or l.fn.a j 0 * get_or l.b j 0 % P;
  left : (j : ℕ) → l.k ≤ j → get_or l.a j 0 ≡ get_or l.fn.a j 0;
}
