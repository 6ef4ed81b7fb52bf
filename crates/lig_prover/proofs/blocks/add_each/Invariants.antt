use Rattle.std.proofs.Common.{◌≡◌, ℕ, ◌+◌, ◌%◌, ◌<◌, ◌≤◌, get_or}
use Rattle.gold_field.specs.declared.gold.TheConstants.{P}
use Rattle.lig_prover.proofs.blocks.add_each.Given as goal

abbrev pub invariant-loop-i : goal.invariant-loop-i
invariant-loop-i g l = record {
  done : (h : ℕ → ℕ) → ((j x : ℕ) → goal.F-post g l.f j x → x % P ≡ h j % P)
      → (k : ℕ) → k < l.i
      → get_or l.sums k 0 ≡ (get_or l.fn.sums k 0 + h (l.first + k)) % P;
  left : (k : ℕ) → l.i ≤ k → get_or l.sums k 0 ≡ get_or l.fn.sums k 0;
}
