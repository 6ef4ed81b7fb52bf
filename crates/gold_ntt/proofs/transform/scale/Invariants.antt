use Rattle.std.proofs.Common.{◌≡◌, ℕ, ◌*◌, ◌%◌, ◌<◌, ◌≤◌, get_or}
use Rattle.gold_field.specs.declared.gold.TheConstants.{P}
use Rattle.gold_ntt.proofs.transform.scale.Given as goal

abbrev pub invariant-loop-x : goal.invariant-loop-x
invariant-loop-x l = record {
  done : (k : ℕ) → k < l.x-index → get_or l.a k 0 ≡ get_or l.fn.a k 0 * l.factor % P;
  left : (k : ℕ) → l.x-index ≤ k → get_or l.a k 0 ≡ get_or l.fn.a k 0;
}
