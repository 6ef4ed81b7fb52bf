-- Numbers of the field that are the bits of one number.
use Rattle.std.specs.Prelude.{◌≡◌, ℕ, ◌*◌, ◌%◌, ◌^◌, ◌<◌, List, map, sum_by, nat_eq}
use Rattle.std.specs.List.{IsDistinct}
use Rattle.gold_field.specs.declared.gold.TheConstants.{P}

-- one factor times powers of two that differ, where the sum of these powers, as whole numbers, is
-- below the order of the field
pub record AreBits (coefs : List ℕ) : Type 0 where
  pub factor : ℕ
  pub exponents : List ℕ
  pub coefficients : coefs ≡ map (λ e. factor * 2 ^ e % P) exponents
  pub distinct : IsDistinct nat_eq exponents
  pub below : sum_by (λ e. 2 ^ e) exponents < P

-- powers of two that differ, and their sum
pub record ArePowers (powers : List ℕ) (sum : ℕ) : Type 0 where
  pub exponents : List ℕ
  pub powers_are : powers ≡ map (λ e. 2 ^ e) exponents
  pub distinct : IsDistinct nat_eq exponents
  pub sum_is : sum ≡ sum_by (λ e. 2 ^ e) exponents

-- times the factor they are powers of two that differ, with a sum below the order of the field
pub record ArePowersBy (factor : ℕ) (coefs : List ℕ) : Type 0 where
  pub sum : ℕ
  pub powers : ArePowers (map (λ c. c * factor % P) coefs) sum
  pub below : sum < P
