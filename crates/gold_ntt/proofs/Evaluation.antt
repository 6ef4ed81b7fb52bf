-- The loop of `eval`, and lengths of products.
use Rattle.std.proofs.Common.{◌≡◌, ℕ, zero, suc, ◌+◌, ◌-◌, ◌*◌, ◌/◌, ◌%◌, ◌^◌, ◌<◌, ◌≤◌, max, inl}
use Rattle.std.proofs.Common.{inr, sym, ◌∙◌, ap, arith, lit<, List, ◌++◌, length, get_or, take}
use Rattle.std.proofs.Common.{replicate}
use Rattle.std.proofs.Math.Nat.{pow-le-pow_right}
use Rattle.std.proofs.Math.Seq.{get_or-append_right}
use Rattle.std.proofs.lemmas.Nat.{mul-mod_second}
use Rattle.std.proofs.lemmas.List.{take_all, get_or_append_left, get_or-replicate, get_or_past}
use Rattle.std.proofs.lemmas.List.{length-replicate}
use Rattle.std.proofs.lemmas.Bool.{cases_lt}
use Rattle.std.proofs.lemmas.Grind.{get_or_default_zero}
use Rattle.gold_field.specs.declared.gold.TheConstants.{P}
use Rattle.gold_field.proofs.FieldLaws.{sum_of_rests}
use Rattle.gold_ntt.specs.Polynomial.{poly}
use Rattle.gold_ntt.proofs.Sums.{sum_to-zero, sum_to-suc}

pub no_terms : (c : ℕ → ℕ) (x : ℕ) → 0 ≡ poly 0 c x % P
no_terms c x = sym (ap (λ (y : ℕ). y % P) (sum_to-zero (λ i. c i * x ^ i)))

pub one_term : (a : List ℕ) (x i v p d t r : ℕ) → i < length a
    → v ≡ poly i (λ k. get_or a k 0) x % P → p ≡ x ^ i % P
    → d ≡ get_or a i d → t ≡ (d * p) % P → r ≡ (v + t) % P
    → r ≡ poly (i + 1) (λ k. get_or a k 0) x % P
one_term a x i v p d t r low value power read product sum =
    let c : ℕ = get_or a i 0 in
    let more : i + 1 ≡ suc i = omega arith in
    let term : t ≡ c * x ^ i % P =
    product ∙ ap (λ (y : ℕ). (y * p) % P) (read ∙ get_or_default_zero a i d low)
    ∙ ap (λ (y : ℕ). (c * y) % P) power
    ∙ mul-mod_second c (x ^ i) P in
    sum ∙ ap (λ (y : ℕ). (y + t) % P) value
    ∙ ap (λ (y : ℕ). (poly i (λ k. get_or a k 0) x % P + y) % P) term
    ∙ sum_of_rests P (poly i (λ k. get_or a k 0) x) (c * x ^ i)
    ∙ ap (λ (y : ℕ). y % P)
    (sym (sum_to-suc i (λ k. get_or a k 0 * x ^ k))
    ∙ ap (λ (y : ℕ). poly y (λ k. get_or a k 0) x) (sym more))

pub small_log : (k n m : ℕ) → n ≡ 2 ^ k → n / 2 < max 1 m → 0 < m → m < 2 ^ 20 → k ≤ 20
small_log k n m is below some small =
    elim (cases_lt 20 k) [
      | inl above ↦
          let high : 2 ^ 21 ≤ 2 ^ k =
          pow-le-pow_right {n = 2} (lit< tt) {i = 21} {j = k} (omega arith) in
          absurd (omega arith)
      | inr low ↦ low
    ]

get_or-zeros : (n i : ℕ) → get_or (replicate n zero) i 0 ≡ 0
get_or-zeros n i = elim (cases_lt i n) [
  | inl low ↦ get_or-replicate n i 0 0 low
  | inr high ↦ let long : length (replicate n zero) ≤ i =
      omega (arith, length-replicate n zero) in get_or_past (replicate n zero) i 0 long
]

pub padded_same : (xs ys : List ℕ) (size n k : ℕ) → length xs ≤ size
    → ys ≡ take size xs ++ replicate n zero → get_or ys k 0 ≡ get_or xs k 0
padded_same xs ys size n k fits is =
    let tail : List ℕ = replicate n zero in
    ap (λ (y : List ℕ). get_or y k 0) (is ∙ ap (λ (y : List ℕ). y ++ tail) (take_all size xs fits))
    ∙ elim (cases_lt k (length xs)) [
      | inl low ↦ get_or_append_left xs tail 0 k low
      | inr high ↦ get_or-append_right xs tail k 0 high ∙ get_or-zeros n (k - length xs)
          ∙ sym (get_or_past xs k 0 high)
    ]
