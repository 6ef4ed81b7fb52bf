-- What the lists of terms keep while a sum is made.
use Rattle.std.specs.Prelude.{◌≡◌, ℕ, ◌+◌, ◌*◌, ◌%◌, List, ◌++◌, sum_by}
use Rattle.gold_field.specs.declared.form.Term.{Term}
use Rattle.gold_field.specs.declared.gold.TheConstants.{P}
use Rattle.gold_field.specs.Rises.{RisesFrom}
use Rattle.cir_lc.specs.Terms.{IsWithin}

-- the sum of the terms, not reduced
unfoldable pub total : (ℕ → ℕ) → List Term → ℕ
total s terms = sum_by (λ t. t.coef * s t.signal) terms

-- `out` is a + k * b but for the rest of each, and what is left fits behind it
pub record IsMerged (k : ℕ) (a b out left right : List Term) : Type 0 where
  pub rises_left : RisesFrom 0 (out ++ left)
  pub rises_right : RisesFrom 0 (out ++ right)
  pub value : (s : ℕ → ℕ) → (total s out + (total s left + k * total s right)) % P
      ≡ (total s a + k * total s b) % P
  pub within : (n : ℕ) → IsWithin n a → IsWithin n b → IsWithin n out × IsWithin n left
      × IsWithin n right
