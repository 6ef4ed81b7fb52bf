-- Polynomials over the numbers below p, by their lists of coefficients.
use Rattle.std.specs.Prelude.{◌≡◌, ℕ, zero, suc, ◌+◌, ◌-◌, ◌*◌, ◌%◌, ◌^◌, ◌<◌, ◌≤◌, List, length}
use Rattle.std.specs.Prelude.{slice_index, if◌then◌else◌, nat_lt}
use Rattle.gold_field.specs.declared.gold.TheConstants.{P}

-- f 0 + f 1 + .. + f (n - 1)
unfoldable pub sum_to : ℕ → (ℕ → ℕ) → ℕ
sum_to zero f = 0
sum_to (suc n) f = sum_to n f + f n

-- c 0 + c 1 * x + .. + c (n - 1) * x ^ (n - 1)
abbrev pub poly : ℕ → (ℕ → ℕ) → ℕ → ℕ
poly n c x = sum_to n (λ i. c i * x ^ i)

-- the value at x of the polynomial with these coefficients
abbrev pub eval_at : List ℕ → ℕ → ℕ
eval_at coefs x = poly (length coefs) (λ i. slice_index coefs i) x % P

-- coefficient k of a product
abbrev pub product_at : List ℕ → List ℕ → ℕ → ℕ
product_at a b k = sum_to (k + 1) (λ i. slice_index a i * slice_index b (k - i)) % P

-- c is the polynomial a + b
pub record IsSum (a b c : List ℕ) : Type 0 where
  pub first_fits : length a ≤ length c
  pub second_fits : length b ≤ length c
  pub coefficient : (k : ℕ) → k < length c
      → slice_index c k ≡ (slice_index a k + slice_index b k) % P

-- c is the polynomial s * a
pub record IsMultiple (s : ℕ) (a c : List ℕ) : Type 0 where
  pub same_length : length c ≡ length a
  pub coefficient : (k : ℕ) → k < length c → slice_index c k ≡ s * slice_index a k % P

-- c is the polynomial a * b
pub record IsProduct (a b c : List ℕ) : Type 0 where
  pub fits : 0 < length a → 0 < length b → length a + length b ≤ length c + 1
  pub coefficient : (k : ℕ) → k < length c → slice_index c k ≡ product_at a b k

-- the same polynomial, with zeros behind
pub record IsPadded (a c : List ℕ) : Type 0 where
  pub fits : length a ≤ length c
  pub coefficient : (k : ℕ) → slice_index c k ≡ slice_index a k

-- the coefficients of X ^ n times the polynomial
abbrev pub shifted_at : ℕ → List ℕ → ℕ → ℕ
shifted_at n a k = if nat_lt k n then 0 else slice_index a (k - n)

-- f is (X ^ n - 1) * q + r, and r has degree below n
pub record IsDivision (n : ℕ) (f q r : List ℕ) : Type 0 where
  pub small : length r ≤ n
  pub coefficient : (k : ℕ) → (slice_index f k + slice_index q k) % P
      ≡ (shifted_at n q k + slice_index r k) % P
