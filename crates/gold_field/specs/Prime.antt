-- Prime numbers.
use Rattle.std.specs.Prelude.{◌≢◌, ℕ, ◌%◌, ◌<◌, ◌≤◌}

-- p is prime: no number from 2 to p - 1 divides it
pub record IsPrime (p : ℕ) : Type 0 where
  pub large : 2 ≤ p
  pub whole : (d : ℕ) → 2 ≤ d → d < p → p % d ≢ 0
