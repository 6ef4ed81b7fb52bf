-- Sums of products by their words, and lists of powers.
use Rattle.std.proofs.Common.{◌≡◌, ℕ, suc, ◌+◌, ◌*◌, ◌/◌, ◌%◌, ◌^◌, ◌<◌, ◌≤◌, sym, ap, ◌∙◌, arith}
use Rattle.std.proofs.Common.{List, [], ◌∷◌, ◌++◌, length, get_or, below_more}
use Rattle.std.proofs.Math.Nat.{mul-le-mul_left}
use Rattle.std.proofs.Math.Seq.{get_or-append_seam}
use Rattle.std.proofs.lemmas.List.{get_or_append_left}
use Rattle.std.proofs.lemmas.Grind.{get_or_default_zero}
use Rattle.gold_field.specs.declared.gold.TheConstants.{P}
use Rattle.gold_ntt.specs.Polynomial.{sum_to}
use Rattle.gold_ntt.proofs.Sums.{sum_to-suc}

-- one more product, in two words
pub one_more_product : (low high i x y : ℕ) (f : ℕ → ℕ)
    → low + 18446744073709551616 * high ≡ sum_to i f → f i ≡ x * y
    → low + x * y % 18446744073709551616
    + 18446744073709551616 * (high + x * y / 18446744073709551616) ≡ sum_to (i + 1) f
one_more_product low high i x y f is last =
    let next : i + 1 ≡ suc i = omega arith in
    let product : ℕ = x * y in
    let more : sum_to (i + 1) f ≡ sum_to i f + product =
    ap (λ (z : ℕ). sum_to z f) next ∙ sum_to-suc i f ∙ ap (λ (z : ℕ). sum_to i f + z) last in
    words low high product (sum_to i f) is ∙ sym more
  where
    words : (low high p s : ℕ) → low + 18446744073709551616 * high ≡ s
        → low + p % 18446744073709551616
        + 18446744073709551616 * (high + p / 18446744073709551616) ≡ s + p
    words low high p s is = omega arith

-- the high word of a product
pub high_word : (x y : ℕ) → x < 18446744073709551616 → y < 18446744073709551616
    → x * y / 18446744073709551616 ≤ 18446744073709551616
high_word x y low_x low_y =
    let most : y ≤ 18446744073709551616 = omega arith in
    let grown : x * y ≤ x * 18446744073709551616 = mul-le-mul_left x most in
    omega arith

-- a number that was read
pub read_there : (xs : List ℕ) (i x y z : ℕ) → i < length xs → x ≡ get_or xs i x → y ≡ x → z ≡ y
    → z ≡ get_or xs i 0
read_there xs i x y z low is same again = again ∙ same ∙ is ∙ get_or_default_zero xs i x low

-- one more power in a list
pub one_more_power : (all new : List ℕ) (x k power : ℕ) → length all ≡ k
    → ((i : ℕ) → i < k → get_or all i 0 ≡ x ^ i % P) → power ≡ x ^ k % P
    → new ≡ all ++ power ∷ []
    → (i : ℕ) → i < k + 1 → get_or new i 0 ≡ x ^ i % P
one_more_power all new x k power count each is pushed =
    below_more _ _
    (λ i l. ap (λ (y : List ℕ). get_or y i 0) pushed
    ∙ get_or_append_left all (power ∷ []) 0 i (omega arith) ∙ each i l)
    (ap (λ (y : List ℕ). get_or y k 0) pushed
    ∙ ap (λ (y : ℕ). get_or (all ++ power ∷ []) y 0) (sym count)
    ∙ get_or-append_seam all power [] 0 ∙ is)
