-- The elements of a row of an array.
use Rattle.std.proofs.Common.{◌≡◌, ◌∙◌, ℕ, zero, suc, ◌*◌, ◌%◌, Bool, true, false, List}
use Rattle.std.proofs.Common.{◌∷◌, refl, sym, arith, mul-zero, mul-suc}
use Rattle.std.specs.Prelude.{◌==◌}
use Rattle.std.proofs.lemmas.Bool.Decides.{Decides-eqb}
use Rattle.std.proofs.lemmas.Nat.{mul-mod_first, mul-mod_second}
use Rattle.gold_field.specs.declared.gold.TheConstants.{P}
use Rattle.cir_meaning.specs.Places.{elements}

pub row_times : (d : ℕ) (ds : List ℕ)
    → (d % P) * (elements ds % P) % P ≡ elements (d ∷ ds) % P
row_times d ds = mul-mod_first d (elements ds % P) P ∙ mul-mod_second d (elements ds) P

unless_true : (b : Bool) → (b ≡ true → ⊥) → b ≡ false
unless_true true never = absurd (never refl)
unless_true false never = refl

other_than_one : (n : ℕ) → (n ≡ 1 → ⊥) → (n == 1) ≡ false
other_than_one n never = unless_true (n == 1) (λ h. never ((Decides-eqb n 1).0 h))

not_one_times : (d n : ℕ) → (d == 1) ≡ false → d * n ≡ 1 → ⊥
not_one_times d zero other is = omega (arith, is, mul-zero d)
not_one_times zero (suc n) other is = omega (arith, is)
not_one_times (suc zero) (suc n) other is = cc
not_one_times (suc (suc d)) (suc n) other is = omega (arith, is, mul-suc (suc (suc d)) n)

-- a product with another number than 1 is another number than 1
pub not_one : (d : ℕ) (ds : List ℕ) → (d == 1) ≡ false → (d == 1) ≡ (elements (d ∷ ds) == 1)
not_one d ds other =
    other ∙ sym (other_than_one (d * elements ds) (not_one_times d (elements ds) other))
