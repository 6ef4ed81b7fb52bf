use Rattle.std.proofs.Common.{◌≡◌, ℕ, ◌+◌, ◌<◌, ◌≤◌, ◌⊎◌, get_or}
use Rattle.gold_ntt.proofs.coset.double.Given as goal

abbrev pub invariant-loop-j : goal.invariant-loop-j
invariant-loop-j l = record {
  done : (k : ℕ) → k < l.j → get_or l.a (l.start + l.half + k) 0 ≡ get_or l.fn.a (l.start + k) 0;
  others : (p : ℕ) → (p < l.start + l.half) ⊎ (l.start + l.half + l.j ≤ p)
      → get_or l.a p 0 ≡ get_or l.fn.a p 0;
}
