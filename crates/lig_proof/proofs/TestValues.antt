-- The values of the polynomials that a prover sends.
use Rattle.std.proofs.Common.{◌≡◌, ℕ, zero, suc, ◌+◌, ◌-◌, ◌*◌, ◌%◌, ◌^◌, ◌<◌, ◌≤◌, List, [], ◌∷◌}
use Rattle.std.proofs.Common.{length, get_or, refl, sym, ap, subst, ◌∙◌, arith, zero-add, mul_comm}
use Rattle.std.specs.List.{AllByRecursion}
use Rattle.std.proofs.Math.Nat.{mod-mod}
use Rattle.std.proofs.lemmas.Nat.{mod_below}
use Rattle.std.proofs.lemmas.List.FromFn.{length-map-range_with_len, get_or-map-range_with_len}
use Rattle.gold_field.specs.declared.gold.TheConstants.{P}
use Rattle.gold_field.proofs.FieldLaws.{product_of_rests, sum_cancel}
use Rattle.gold_ntt.specs.Polynomial.{sum_to, poly, eval_at, product_at}
use Rattle.gold_ntt.proofs.Sums.{sum_same, sum_mod, sum-scale, sum-swap}
use Rattle.gold_ntt.proofs.Values.{poly_coefs, poly-scale, plus_same, times_same}
use Rattle.gold_ntt.proofs.Products.{poly-add, poly_past, product, product_value}
use Rattle.rand_chacha.specs.ChaCha.{key_of}
use Rattle.lig_proof.specs.ProofBytes.{AreValues}
use Rattle.lig_proof.specs.Drawing.{number_at, numbers_of}
use Rattle.lig_proof.specs.Masks.{mask_numbers}
use Rattle.lig_proof.specs.Sent.{alpha, rho, coefficients}
use Rattle.lig_proof.specs.Values.{EncodedHasDegrees, ProximityTestHasValues, LinearTestHasValues}
use Rattle.lig_proof.specs.Values.{ProductTestHasValues}
use Rattle.lig_proof.proofs.Draws.{length-numbers_of}
use Rattle.lig_proof.proofs.Interpolants.{made_values}

-- ---- sums of polynomials

-- what a polynomial of so many coefficients is at x
coefficients_at : (n : ℕ) (f : ℕ → ℕ) (x : ℕ) → eval_at (coefficients n f) x ≡ poly n f x % P
coefficients_at n f x =
    let long = length-map-range_with_len (λ i. f i % P) 0 n in
    ap (λ m. poly m (λ i. get_or (coefficients n f) i 0) x % P) long
    ∙ poly_coefs P n (λ i. get_or (coefficients n f) i 0) f x
    (λ i l. ap (λ y. y % P) (get_or-map-range_with_len (λ i. f i % P) 0 n i i 0 l (zero-add i))
    ∙ mod-mod (f i) P)

-- a sum of polynomials, each at x
poly_sum : (n count : ℕ) (g : ℕ → ℕ → ℕ) (x : ℕ)
    → poly n (λ i. sum_to count (λ k. g k i)) x ≡ sum_to count (λ k. poly n (g k) x)
poly_sum n count g x =
    sum_same n (λ i. sum_to count (λ k. g k i) * x ^ i) (λ i. sum_to count (λ k. g k i * x ^ i))
    (λ i l. mul_comm (sum_to count (λ k. g k i)) (x ^ i)
    ∙ sym (sum-scale count (x ^ i) (λ k. g k i))
    ∙ sum_same count (λ k. x ^ i * g k i) (λ k. g k i * x ^ i) (λ k m. mul_comm (x ^ i) (g k i)))
    ∙ sum-swap n count (λ k i. g k i * x ^ i)

-- a mask and a sum of polynomials, from the values of each
combined_at : (n count : ℕ) (m : ℕ → ℕ) (g : ℕ → ℕ → ℕ) (x value : ℕ) (h : ℕ → ℕ)
    → poly n m x % P ≡ value % P
    → ((k : ℕ) → k < count → poly n (g k) x % P ≡ h k % P)
    → eval_at (coefficients n (λ i. m i + sum_to count (λ k. g k i))) x
    ≡ (value + sum_to count h) % P
combined_at n count m g x value h mask each =
    coefficients_at n (λ i. m i + sum_to count (λ k. g k i)) x
    ∙ ap (λ y. y % P) (poly-add n m (λ i. sum_to count (λ k. g k i)) x)
    ∙ ap (λ y. (poly n m x + y) % P) (poly_sum n count g x)
    ∙ plus_same P (poly n m x) value (sum_to count (λ k. poly n (g k) x)) (sum_to count h) mask
    (sum_mod P count (λ k. poly n (g k) x) h each)

-- a polynomial that has no more than n coefficients
short_at : (coefs : List ℕ) (n x : ℕ) → length coefs ≤ n
    → poly n (λ i. get_or coefs i 0) x % P ≡ eval_at coefs x % P
short_at coefs n x fits = ap (λ y. y % P) (poly_past coefs n x fits)
    ∙ sym (mod-mod (poly (length coefs) (λ i. get_or coefs i 0) x) P)

-- a product
product_short : (a b : List ℕ) (n x : ℕ) → length a ≤ n → length a + length b ≤ n + 1
    → poly n (product_at a b) x % P ≡ (eval_at a x * eval_at b x) % P
product_short a b n x short fits =
    poly_coefs P n (product_at a b) (product a b) x (λ i l. mod-mod (product a b i) P)
    ∙ ap (λ y. y % P) (product_value a b n x short fits)
    ∙ sym (product_of_rests P (poly (length a) (λ i. get_or a i 0) x)
    (poly (length b) (λ i. get_or b i 0) x))

-- the opposite of a polynomial
opposite_at : (coefs : List ℕ) (n x : ℕ) → length coefs ≤ n → ((i : ℕ) → get_or coefs i 0 < P)
    → poly n (λ i. P - get_or coefs i 0) x % P ≡ (P - eval_at coefs x) % P
opposite_at coefs n x fits below =
    let c : ℕ → ℕ = λ i. get_or coefs i 0 in
    let d : ℕ → ℕ = λ i. P - get_or coefs i 0 in
    let value = eval_at coefs x in
    let low : value < P = mod_below (poly (length coefs) c x) P (omega arith) in
    let whole : poly n c x + poly n d x ≡ P * poly n (λ i. 1) x =
    sym (poly-add n c d x)
    ∙ sum_same n (λ i. (c i + d i) * x ^ i) (λ i. P * 1 * x ^ i) (λ i l. let b = below i in
    let one : c i + d i ≡ P * 1 = omega arith in ap (λ y. y * x ^ i) one)
    ∙ poly-scale n P (λ i. 1) x in
    let none : (P * poly n (λ i. 1) x) % P ≡ 0 = omega arith in
    let sum : (poly n c x + poly n d x) % P ≡ 0 = ap (λ y. y % P) whole ∙ none in
    let first : (value + poly n d x) % P ≡ 0 =
    plus_same P value (poly n c x) (poly n d x) (poly n d x) (sym (short_at coefs n x fits)) refl
    ∙ sum in
    let second : (value + (P - value)) % P ≡ 0 = omega arith in
    sum_cancel P value (poly n d x) (P - value) (omega arith) (first ∙ sym second)

-- ---- how many coefficients there are

drawn_values : (key : List ℕ) (stream place n : ℕ) → AreValues n (numbers_of key stream place n)
drawn_values key stream place n = record {
  count = length-numbers_of key stream place n;
  each = below key stream place n;
}
  where
    below : (key : List ℕ) (stream place n : ℕ)
        → AllByRecursion (λ x. x < P) (numbers_of key stream place n)
    below key stream place zero = tt
    below key stream place (suc n) = (number_below key stream place, below key stream (place + 2) n)
      where
        number_below : (key : List ℕ) (stream place : ℕ) → number_at key stream place < P
        number_below key stream place = mod_below _ P (omega arith)

pub encoded_has_degrees : EncodedHasDegrees
encoded_has_degrees p v seed e h is =
    let least = h.least in
    record {
      row = λ k l. let row = is.row k l in
          let Fit : List ℕ → Type 0 = λ xs. AreValues (2 * p.l) xs in
          subst Fit (sym row.sum) (made_values (2 * p.l) _);
      proximity = λ t l. let Fit : List ℕ → Type 0 = λ xs. AreValues (2 * p.l) xs in
          subst Fit (sym (is.proximity t l)) (drawn_values _ 0 _ (2 * p.l));
      linear = λ t l. let Fit : List ℕ → Type 0 = λ xs. AreValues (3 * p.l) xs in
          let free = 3 * p.l - 1 in
          let others = mask_numbers seed ((p.rows + 4) * p.l + t * free) free in
          let are : AreValues free others = drawn_values (key_of seed) 0
          (2 * ((p.rows + 4) * p.l + t * free)) free in
          let count = are.count in
          subst Fit (sym (is.linear t l))
          (record { count = omega arith; each = (mod_below _ P (omega arith), are.each) });
      product = λ t l. let Fit : List ℕ → Type 0 = λ xs. AreValues (4 * p.l) xs in
          subst Fit (sym (is.product t l)) (made_values (4 * p.l) _);
    }

-- ---- the three tests

all_below : (n : ℕ) (values : List ℕ) → AreValues n values → (i : ℕ) → get_or values i 0 < P
all_below n values h i = below values h.each i
  where
    below : (xs : List ℕ) → AllByRecursion (λ x. x < P) xs → (i : ℕ) → get_or xs i 0 < P
    below [] a i = omega arith
    below (x ∷ xs) a zero = a.0
    below (x ∷ xs) a (suc i) = below xs a.1 i

fits : (n m : ℕ) (values : List ℕ) → AreValues n values → n ≤ m → length values ≤ m
fits n m values h l = let count = h.count in omega arith

pub proximity_test_has_values : ProximityTestHasValues
proximity_test_has_values p c e t x l h =
    let n = 2 * p.l in
    let row = λ (k i : ℕ). get_or (e.row k) i 0 in
    combined_at n p.rows (λ i. get_or (e.proximity t) i 0) (λ k i. alpha p c t k * row k i) x
    (eval_at (e.proximity t) x) (λ k. alpha p c t k * eval_at (e.row k) x)
    (short_at (e.proximity t) n x (fits n n (e.proximity t) (h.proximity t l) (omega arith)))
    (λ k m. ap (λ y. y % P) (poly-scale n (alpha p c t k) (row k) x)
    ∙ times_same P (alpha p c t k) (poly n (row k) x) (eval_at (e.row k) x)
    (short_at (e.row k) n x (fits n n (e.row k) (h.row k m) (omega arith))))

pub linear_test_has_values : LinearTestHasValues
linear_test_has_values p e system t x l degrees h =
    let n = 3 * p.l in
    combined_at n p.rows (λ i. get_or (e.linear t) i 0) (λ k i. product_at (system k) (e.row k) i) x
    (eval_at (e.linear t) x) (λ k. eval_at (system k) x * eval_at (e.row k) x)
    (short_at (e.linear t) n x (fits n n (e.linear t) (h.linear t l) (omega arith)))
    (λ k m. let first = (degrees k m).count in
    let second = (h.row k m).count in
    product_short (system k) (e.row k) n x (omega arith) (omega arith))

pub product_test_has_values : ProductTestHasValues
product_test_has_values p c e t x l is h =
    let n = 4 * p.l in
    let least = is.least in
    let rows = is.rows in
    let x_row = λ (k : ℕ). e.row (p.wire_rows + k) in
    let y_row = λ (k : ℕ). e.row (p.wire_rows + p.constraint_rows + k) in
    let z_row = λ (k : ℕ). e.row (p.wire_rows + 2 * p.constraint_rows + k) in
    combined_at n p.constraint_rows (λ i. get_or (e.product t) i 0)
    (λ k i. rho p c t k * (product_at (x_row k) (y_row k) i + (P - get_or (z_row k) i 0))) x
    (eval_at (e.product t) x)
    (λ k. rho p c t k * (eval_at (x_row k) x * eval_at (y_row k) x + (P - eval_at (z_row k) x)))
    (short_at (e.product t) n x (fits n n (e.product t) (h.product t l) (omega arith)))
    (λ k m.
    let x_is = h.row (p.wire_rows + k) (omega arith) in
    let y_is = h.row (p.wire_rows + p.constraint_rows + k) (omega arith) in
    let z_is = h.row (p.wire_rows + 2 * p.constraint_rows + k) (omega arith) in
    let x_count = x_is.count in
    let y_count = y_is.count in
    let z_count = z_is.count in
    let f = λ (i : ℕ). product_at (x_row k) (y_row k) i in
    let g = λ (i : ℕ). P - get_or (z_row k) i 0 in
    ap (λ y. y % P) (poly-scale n (rho p c t k) (λ i. f i + g i) x)
    ∙ times_same P (rho p c t k) (poly n (λ i. f i + g i) x)
    (eval_at (x_row k) x * eval_at (y_row k) x + (P - eval_at (z_row k) x))
    (ap (λ y. y % P) (poly-add n f g x)
    ∙ plus_same P (poly n f x) (eval_at (x_row k) x * eval_at (y_row k) x) (poly n g x)
    (P - eval_at (z_row k) x)
    (product_short (x_row k) (y_row k) n x (omega arith) (omega arith))
    (opposite_at (z_row k) n x (omega arith) (all_below (2 * p.l) (z_row k) z_is))))
