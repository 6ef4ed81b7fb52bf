-- Roots of unity, and the transforms between coefficients and values at their powers.
use Rattle.std.specs.Prelude.{◌≡◌, ℕ, ◌+◌, ◌-◌, ◌*◌, ◌%◌, ◌^◌, ◌<◌, ◌≤◌, ◌⊎◌, List, length}
use Rattle.std.specs.Prelude.{slice_index}
use Rattle.gold_field.specs.declared.gold.TheConstants.{P}
use Rattle.gold_field.specs.Powers.{squared}
use Rattle.gold_ntt.specs.declared.roots.TheConstants.{ROOT}
use Rattle.gold_ntt.specs.Polynomial.{poly, eval_at}
use Rattle.gold_ntt.specs.Reversal.{reversed}

-- the root of unity of order 2 ^ e: 7 ^ (2 ^ 32 - 1), squared 32 - e times
unfoldable pub root_of : ℕ → ℕ
root_of e = squared P (32 - e) ROOT

-- the lengths of transforms
pub record IsLength (n : ℕ) : Type 0 where
  pub log : ℕ
  pub small : log ≤ 20
  pub power : n ≡ 2 ^ log

-- place j has the value at w ^ j
pub record HasValues (w : ℕ) (coefs values : List ℕ) : Type 0 where
  pub same_length : length values ≡ length coefs
  pub value : (j : ℕ) → j < length coefs → slice_index values j ≡ eval_at coefs (w ^ j % P)

-- place j has the value at the j-th power of the root of order 2 ^ e
abbrev pub IsTransform : ℕ → List ℕ → List ℕ → Type 0
IsTransform e coefs values = HasValues (root_of e) coefs values

-- place j has the value at 7 times the j-th power
pub record IsCosetTransform (e : ℕ) (coefs values : List ℕ) : Type 0 where
  pub same_length : length values ≡ length coefs
  pub value : (j : ℕ) → j < length coefs
      → slice_index values j ≡ eval_at coefs (7 * root_of e ^ j % P)

-- the power of w that is half of 2 ^ log is -1
abbrev pub HalvesAt : ℕ → ℕ → Type 0
HalvesAt w log = 0 < log → w ^ (2 ^ (log - 1)) % P ≡ P - 1

-- in the block of 2 ^ log places from start on, place j of new has the value at w ^ j; the
-- coefficients stand in old with their indices' bits reversed; the other places are the same
pub record TransformsBlock (old new : List ℕ) (start log w : ℕ) : Type 0 where
  pub inside : (j : ℕ) → j < 2 ^ log
      → slice_index new (start + j) ≡ poly (2 ^ log) (λ i. slice_index old (start + reversed log i))
      (w ^ j) % P
  pub others : (p : ℕ) → (p < start) ⊎ (start + 2 ^ log ≤ p) → slice_index new p ≡ slice_index old p
  pub below : (j : ℕ) → j < 2 ^ log → slice_index old (start + j) < P
