-- The points 7 * w ^ j in the order in which halving a block of coefficients meets them.
use Rattle.std.specs.Prelude.{◌≡◌, ℕ, suc, ◌+◌, ◌-◌, ◌*◌, ◌%◌, ◌^◌, ◌<◌, ◌≤◌, ◌⊎◌, List, length}
use Rattle.std.specs.Prelude.{slice_index}
use Rattle.gold_field.specs.declared.gold.TheConstants.{P}
use Rattle.gold_ntt.specs.Polynomial.{poly}
use Rattle.gold_ntt.specs.Reversal.{reversed}
use Rattle.gold_ntt.specs.Transform.{root_of}

-- 7 times a power of the root of order 2 ^ e, by the reversed bits of p
abbrev pub point_at : ℕ → ℕ → ℕ
point_at e p = 7 * root_of e ^ reversed e p

-- Of 2 ^ e points, the first half and the second of block b of 2 ^ d blocks are the roots of
-- X ^ (2 ^ k) - t and of X ^ (2 ^ k) + t: here is t, at place 2 ^ d + b.
pub record AreTwiddles (e : ℕ) (twiddles : List ℕ) : Type 0 where
  pub count : length twiddles ≡ 2 ^ e
  pub each : (d k b : ℕ) → d + suc k ≡ e → b < 2 ^ d → slice_index twiddles (2 ^ d + b)
      ≡ (7 * root_of e ^ reversed d b) ^ (2 ^ k) % P

-- Of the polynomial that old has in 2 * m places from start on, new has the remainders by X ^ m - t
-- and by X ^ m + t, but for multiples of P. They have no coefficients from count on.
pub record AreParts (old new : List ℕ) (start m t count : ℕ) : Type 0 where
  pub low : (j : ℕ) → j < m → slice_index new (start + j) % P
      ≡ (slice_index old (start + j) + t * slice_index old (start + m + j)) % P
  pub high : (j : ℕ) → j < m → slice_index new (start + m + j) % P
      ≡ (slice_index old (start + j) + (P - 1) * t * slice_index old (start + m + j)) % P
  pub low_zeros : (i : ℕ) → count ≤ i → i < m → slice_index new (start + i) ≡ 0
  pub high_zeros : (i : ℕ) → count ≤ i → i < m → slice_index new (start + m + i) ≡ 0
  pub others : (p : ℕ) → (p < start) ⊎ (start + (m + m) ≤ p) → slice_index new p ≡ slice_index old p

-- of 2 ^ e places, those from start on, 2 ^ k of them, have in new the values at their points of
-- the polynomial whose coefficients they have in old; the other places are the same
pub record HasSpread (old new : List ℕ) (e start k : ℕ) : Type 0 where
  pub inside : (p : ℕ) → p < 2 ^ k → slice_index new (start + p)
      ≡ poly (2 ^ k) (λ i. slice_index old (start + i)) (point_at e (start + p)) % P
  pub others : (p : ℕ) → (p < start) ⊎ (start + 2 ^ k ≤ p) → slice_index new p ≡ slice_index old p
