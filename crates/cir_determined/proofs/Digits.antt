-- Numbers have one reading in binary digits.
use Rattle.std.proofs.Common.{◌≡◌, ℕ, zero, suc, ◌+◌, ◌*◌, ◌^◌, ◌<◌, ◌≤◌, false, nat_eq, ◌⊎◌, List}
use Rattle.std.proofs.Common.{[]}
use Rattle.std.proofs.Common.{◌∷◌, length, All, arith, refl, ap, sym, ◌∙◌, inl, inr, lit<}
use Rattle.std.specs.Prelude.{sum_by}
use Rattle.std.specs.List.{IsDistinct, AllByRecursion}
use Rattle.std.proofs.Math.Nat.{pow-succ'}
use Rattle.std.proofs.lemmas.Bool.{cases_lt, cases_order, eqb-false}
use Rattle.std.proofs.lemmas.List.Elements.{All-head, All-tail}
use Rattle.std.proofs.lemmas.List.Sums.{sum_by-cons, get_or-le-sum_by}
use Rattle.std.proofs.lemmas.Map.Keys.{IsDistinct-head, IsDistinct-tail}
use Rattle.cir_lc.specs.Coefficient.{one_at}
use Rattle.cir_lc.proofs.Known.{one_here, none_apart}

-- the number of the lowest n digits
abbrev number : ℕ → (ℕ → ℕ) → ℕ
number zero f = 0
number (suc n) f = number n f + 2 ^ n * f n

abbrev AreDigits : ℕ → (ℕ → ℕ) → Type 0
AreDigits n f = (k : ℕ) → k < n → f k ≤ 1

digit_cases : (x : ℕ) → x ≤ 1 → (x ≡ 0) ⊎ (x ≡ 1)
digit_cases x h = elim (cases_lt x 1) [ inl l ↦ inl (omega arith) | inr l ↦ inr (omega arith) ]

scaled_digit : (p x : ℕ) → x ≤ 1 → p * x ≤ p
scaled_digit p x h =
    elim (digit_cases x h) [
      | inl e ↦ omega (arith, ap (λ (n : ℕ). p * n) e)
      | inr e ↦ omega (arith, ap (λ (n : ℕ). p * n) e)
    ]

number_small : (n : ℕ) (f : ℕ → ℕ) → AreDigits n f → number n f < 2 ^ n
number_small zero f h = lit< tt
number_small (suc n) f h =
    omega (
      arith,
      number_small n f (λ k l. h k (omega arith)),
      scaled_digit (2 ^ n) (f n) (h n (omega arith)),
      pow-succ' 2 n,
    )

top_same : (p a b x y : ℕ) → a < p → b < p → x ≤ 1 → y ≤ 1 → a + p * x ≡ b + p * y → x ≡ y
top_same p a b x y la lb lx ly e = by (digit_cases x lx) (digit_cases y ly)
  where
    by : (x ≡ 0) ⊎ (x ≡ 1) → (y ≡ 0) ⊎ (y ≡ 1) → x ≡ y
    by (inl g) (inl h) = omega arith
    by (inr g) (inr h) = omega arith
    by (inl g) (inr h) =
        absurd (omega (arith, ap (λ (n : ℕ). p * n) g, ap (λ (n : ℕ). p * n) h))
    by (inr g) (inl h) =
        absurd (omega (arith, ap (λ (n : ℕ). p * n) g, ap (λ (n : ℕ). p * n) h))

one_reading : (n : ℕ) (f g : ℕ → ℕ) → AreDigits n f → AreDigits n g → number n f ≡ number n g
    → (k : ℕ) → k < n → f k ≡ g k
one_reading zero f g hf hg e k l = absurd (omega arith)
one_reading (suc n) f g hf hg e k l =
    let top : f n ≡ g n =
    top_same (2 ^ n) (number n f) (number n g) (f n) (g n)
    (number_small n f (λ j m. hf j (omega arith))) (number_small n g (λ j m. hg j (omega arith)))
    (hf n (omega arith)) (hg n (omega arith)) e in
    let rest : number n f ≡ number n g = omega (arith, e, ap (λ (x : ℕ). 2 ^ n * x) top) in
    elim (cases_lt k n) [
      | inl m ↦ one_reading n f g (λ j m. hf j (omega arith)) (λ j m. hg j (omega arith)) rest k m
      | inr m ↦
          let same : k ≡ n = omega arith in
          ap f same ∙ top ∙ sym (ap g same)
    ]

-- a sum of powers of two, each times a digit
abbrev pub weighted : List ℕ → List ℕ → ℕ
weighted [] bs = 0
weighted (e ∷ es) [] = 0
weighted (e ∷ es) (b ∷ bs) = 2 ^ e * b + weighted es bs

-- the digit that stands at k in such a sum
abbrev digit : List ℕ → List ℕ → ℕ → ℕ
digit [] bs k = 0
digit (e ∷ es) [] k = 0
digit (e ∷ es) (b ∷ bs) k = one_at e k * b + digit es bs k

number_zero : (n : ℕ) (f : ℕ → ℕ) → ((k : ℕ) → k < n → f k ≡ 0) → number n f ≡ 0
number_zero zero f h = refl
number_zero (suc n) f h =
    omega (
      arith,
      number_zero n f (λ k l. h k (omega arith)),
      ap (λ (x : ℕ). 2 ^ n * x) (h n (omega arith)),
    )

number_one : (n e b : ℕ) → e < n → number n (λ k. one_at e k * b) ≡ 2 ^ e * b
number_one zero e b l = absurd (omega arith)
number_one (suc n) e b l =
    elim (cases_lt e n) [
      | inl m ↦
          omega (
            arith,
            number_one n e b m,
            ap (λ (x : ℕ). 2 ^ n * (x * b)) (none_apart e n (inl m)),
          )
      | inr m ↦
          let same : n ≡ e = omega arith in
          let none : number n (λ k. one_at e k * b) ≡ 0 =
          number_zero n (λ k. one_at e k * b)
          (λ k q. ap (λ (x : ℕ). x * b) (none_apart e k (inr (omega arith))) ∙ omega arith) in
          omega (
            arith,
            none,
            ap (λ (x : ℕ). 2 ^ n * (x * b)) (one_here e n (sym same)),
            ap (λ (x : ℕ). 2 ^ x * b) same,
          )
    ]

number_sum : (n : ℕ) (f g : ℕ → ℕ) → number n (λ k. f k + g k) ≡ number n f + number n g
number_sum zero f g = refl
number_sum (suc n) f g = omega (arith, number_sum n f g)

weighted-number : (n : ℕ) (es bs : List ℕ) → All (λ e. e < n) es
    → weighted es bs ≡ number n (digit es bs)
weighted-number n [] bs h = sym (number_zero n (digit [] bs) (λ k l. refl))
weighted-number n (e ∷ es) [] h = sym (number_zero n (digit (e ∷ es) []) (λ k l. refl))
weighted-number n (e ∷ es) (b ∷ bs) h =
    let first : e < n = All-head (λ (e : ℕ). e < n) e es h in
    omega (
      arith,
      weighted-number n es bs (All-tail (λ (e : ℕ). e < n) e es h),
      number_one n e b first,
      number_sum n (λ k. one_at e k * b) (digit es bs),
    )

-- an exponent that doesn't stand in the list has the digit 0
digit_none : (e : ℕ) (es bs : List ℕ) → AllByRecursion (λ y. nat_eq e y ≡ false) es
    → digit es bs e ≡ 0
digit_none e [] bs h = refl
digit_none e (f ∷ es) [] h = refl
digit_none e (f ∷ es) (b ∷ bs) h =
    omega (
      arith,
      digit_none e es bs h.1,
      ap (λ (x : ℕ). x * b) (none_apart f e (apart (eqb-false e f h.0))),
    )
  where
    apart : (e ≡ f → ⊥) → (f < e) ⊎ (e < f)
    apart q =
        elim (cases_order e f) [
          | inl same ↦ absurd (q same)
          | inr r ↦ elim r as (λ _. (f < e) ⊎ (e < f)) [ inl l ↦ inr l | inr l ↦ inl l ]
        ]

digit_here : (e b : ℕ) (es bs : List ℕ) → AllByRecursion (λ y. nat_eq e y ≡ false) es
    → digit (e ∷ es) (b ∷ bs) e ≡ b
digit_here e b es bs h =
    omega (arith, digit_none e es bs h, ap (λ (x : ℕ). x * b) (one_here e e refl))

AreBelow : ℕ → List ℕ → Type 0
AreBelow n xs = All (λ x. x < n) xs

digit_small : (es bs : List ℕ) → IsDistinct nat_eq es → All (λ b. b ≤ 1) bs
    → (k : ℕ) → digit es bs k ≤ 1
digit_small [] bs d h k = omega arith
digit_small (e ∷ es) [] d h k = omega arith
digit_small (e ∷ es) (b ∷ bs) d h k =
    let first : b ≤ 1 = All-head (λ (b : ℕ). b ≤ 1) b bs h in
    let rest : digit es bs k ≤ 1 =
    digit_small es bs (IsDistinct-tail nat_eq e es d) (All-tail (λ (b : ℕ). b ≤ 1) b bs h) k in
    elim (cases_order k e) [
      | inl same ↦
          omega (
            arith,
            ap (digit es bs) same,
            digit_none e es bs (IsDistinct-head nat_eq e es d),
            ap (λ (x : ℕ). x * b) (one_here e k (sym same)),
          )
      | inr q ↦
          elim q [
            | inl l ↦ omega (arith, rest, ap (λ (x : ℕ). x * b) (none_apart e k (inr l)))
            | inr l ↦ omega (arith, rest, ap (λ (x : ℕ). x * b) (none_apart e k (inl l)))
          ]
    ]

same_bits : (n : ℕ) (es bs cs : List ℕ) → IsDistinct nat_eq es → All (λ e. e < n) es
    → length bs ≡ length es → length cs ≡ length es
    → ((k : ℕ) → k < n → digit es bs k ≡ digit es cs k) → bs ≡ cs
same_bits n [] [] [] d h lb lc q = refl
same_bits n [] (b ∷ bs) cs d h lb lc q = absurd (omega arith)
same_bits n [] [] (c ∷ cs) d h lb lc q = absurd (omega arith)
same_bits n (e ∷ es) [] cs d h lb lc q = absurd (omega arith)
same_bits n (e ∷ es) (b ∷ bs) [] d h lb lc q = absurd (omega arith)
same_bits n (e ∷ es) (b ∷ bs) (c ∷ cs) d h lb lc q =
    let apart : AllByRecursion (λ y. nat_eq e y ≡ false) es = IsDistinct-head nat_eq e es d in
    let first : b ≡ c =
    sym (digit_here e b es bs apart) ∙ q e (All-head (λ (e : ℕ). e < n) e es h)
    ∙ digit_here e c es cs apart in
    let rest : bs ≡ cs =
    same_bits n es bs cs (IsDistinct-tail nat_eq e es d) (All-tail (λ (e : ℕ). e < n) e es h)
    (omega arith) (omega arith)
    (λ k l. omega (arith, q k l, ap (λ (x : ℕ). one_at e k * x) first)) in
    cc

-- the sum tells the digits
pub one_sum : (es bs cs : List ℕ) → IsDistinct nat_eq es → All (λ b. b ≤ 1) bs
    → All (λ c. c ≤ 1) cs → length bs ≡ length es → length cs ≡ length es
    → weighted es bs ≡ weighted es cs → bs ≡ cs
one_sum es bs cs d hb hc lb lc e =
    same_bits most es bs cs d below lb lc
    (one_reading most (digit es bs) (digit es cs) (λ k l. digit_small es bs d hb k)
    (λ k l. digit_small es cs d hc k)
    (sym (weighted-number most es bs below) ∙ e ∙ weighted-number most es cs below))
  where
    most : ℕ
    most = suc (sum_by (λ (x : ℕ). x) es)

    below : All (λ e. e < suc (sum_by (λ (x : ℕ). x) es)) es
    below k x l = omega (arith, get_or-le-sum_by (λ (x : ℕ). x) es k x l)

-- the sum is at most that of the powers
pub weighted_le : (es bs : List ℕ) → All (λ b. b ≤ 1) bs
    → weighted es bs ≤ sum_by (λ e. 2 ^ e) es
weighted_le [] bs h = omega arith
weighted_le (e ∷ es) [] h = omega arith
weighted_le (e ∷ es) (b ∷ bs) h =
    omega (
      arith,
      sum_by-cons (λ (e : ℕ). 2 ^ e) e es,
      scaled_digit (2 ^ e) b (All-head (λ (b : ℕ). b ≤ 1) b bs h),
      weighted_le es bs (All-tail (λ (b : ℕ). b ≤ 1) b bs h),
    )
