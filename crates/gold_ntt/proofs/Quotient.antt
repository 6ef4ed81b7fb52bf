-- Every polynomial has a quotient and a remainder by X ^ n - 1.
use Rattle.std.proofs.Common.{◌≡◌, ℕ, zero, suc, ◌+◌, ◌-◌, ◌*◌, ◌%◌, ◌<◌, ◌≤◌, inl, inr, refl, sym}
use Rattle.std.proofs.Common.{◌∙◌, ap, arith, List, [], ◌∷◌, length, get_or, cond}
use Rattle.std.proofs.lemmas.Bool.{cases_lt, lt-ltb, le-ltb}
use Rattle.std.proofs.lemmas.List.{get_or_past}
use Rattle.gold_field.specs.declared.gold.TheConstants.{P}
use Rattle.gold_ntt.specs.Polynomial.{sum_to, shifted_at, IsDivision}
use Rattle.gold_ntt.proofs.Sums.{sum_to-zero, sum_same, sum_first, sum_past}

-- g 0, g 1, .., g (n - 1)
abbrev tabulate : ℕ → (ℕ → ℕ) → List ℕ
tabulate zero g = []
tabulate (suc n) g = g 0 ∷ tabulate n (λ i. g (suc i))

length-tabulate : (n : ℕ) (g : ℕ → ℕ) → length (tabulate n g) ≡ n
length-tabulate zero g = refl
length-tabulate (suc n) g = omega (arith, length-tabulate n (λ i. g (suc i)))

get_or-tabulate : (n : ℕ) (g : ℕ → ℕ) (k : ℕ) → k < n → get_or (tabulate n g) k 0 ≡ g k
get_or-tabulate zero g k l = absurd (omega arith)
get_or-tabulate (suc n) g zero l = refl
get_or-tabulate (suc n) g (suc k) l = get_or-tabulate n (λ i. g (suc i)) k (omega arith)

-- the sum of the coefficients k, k + n, k + 2n, .. of f
folded : ℕ → List ℕ → ℕ → ℕ
folded n f k = sum_to (length f + 1) (λ t. get_or f (k + t * n) 0)

-- without the first
later : ℕ → List ℕ → ℕ → ℕ
later n f k = sum_to (length f) (λ t. get_or f (k + (t * n + n)) 0)

folded-later : (n : ℕ) (f : List ℕ) (k : ℕ) → folded n f k ≡ get_or f k 0 + later n f k
unfolding folded later
folded-later n f k =
    let one_more : length f + 1 ≡ suc (length f) = omega arith in
    let here : k + 0 * n ≡ k = omega arith in
    ap (λ (y : ℕ). sum_to y (λ t. get_or f (k + t * n) 0)) one_more
    ∙ sum_first (length f) (λ t. get_or f (k + t * n) 0)
    ∙ ap (λ (y : ℕ). get_or f y 0 + sum_to (length f) (λ t. get_or f (k + suc t * n) 0)) here
    ∙ ap (λ (y : ℕ). get_or f k 0 + y)
    (sum_same (length f) (λ t. get_or f (k + suc t * n) 0) (λ t. get_or f (k + (t * n + n)) 0)
    (λ t l. let place : k + suc t * n ≡ k + (t * n + n) = omega arith
    in ap (λ (y : ℕ). get_or f y 0) place))

later_past : (n : ℕ) (f : List ℕ) (k : ℕ) → length f ≤ k → later n f k ≡ 0
unfolding later
later_past n f k l =
    sum_past 0 (length f) (λ t. get_or f (k + (t * n + n)) 0) (omega arith)
    (λ t h. get_or_past f (k + (t * n + n)) 0 (omega arith))
    ∙ sum_to-zero (λ t. get_or f (k + (t * n + n)) 0)

-- the place n earlier has the whole sum later
later-earlier : (n : ℕ) (f : List ℕ) (k : ℕ) → 0 < n → n ≤ k → later n f (k - n) ≡ folded n f k
unfolding folded later
later-earlier n f k pos l =
    sum_same (length f) (λ t. get_or f (k - n + (t * n + n)) 0) (λ t. get_or f (k + t * n) 0)
    (λ t h. let place : k - n + (t * n + n) ≡ k + t * n = omega arith
    in ap (λ (y : ℕ). get_or f y 0) place)
    ∙ sym
    (sum_past (length f) (length f + 1) (λ t. get_or f (k + t * n) 0) (omega arith)
    (λ t h. get_or_past f (k + t * n) 0 (far t n (length f) k pos h)))
  where
    far : (t n m k : ℕ) → 0 < n → m ≤ t → m ≤ k + t * n
    far t zero m k p h = absurd (omega arith)
    far t (suc n) m k p h = omega arith

quotient_of : ℕ → List ℕ → List ℕ
quotient_of n f = tabulate (length f) (later n f)

remainder_of : ℕ → List ℕ → List ℕ
remainder_of n f = tabulate n (folded n f)

quotient_at : (n : ℕ) (f : List ℕ) (k : ℕ) → get_or (quotient_of n f) k 0 ≡ later n f k
unfolding quotient_of
quotient_at n f k =
    elim (cases_lt k (length f)) [
      | inl low ↦ get_or-tabulate (length f) (later n f) k low
      | inr high ↦
          get_or_past (tabulate (length f) (later n f)) k 0
          (omega (arith, length-tabulate (length f) (later n f)))
          ∙ sym (later_past n f k high)
    ]

division_at : (n : ℕ) (f : List ℕ) (k : ℕ) → 0 < n
    → get_or f k 0 + get_or (quotient_of n f) k 0 ≡ shifted_at n (quotient_of n f) k
    + get_or (remainder_of n f) k 0
unfolding remainder_of
division_at n f k pos =
    elim (cases_lt k n) [
      | inl low ↦
          let none : shifted_at n (quotient_of n f) k ≡ 0 =
          ap (λ (y : _). cond y 0 (get_or (quotient_of n f) (k - n) 0)) (lt-ltb k n low) in
          let rest : get_or (tabulate n (folded n f)) k 0 ≡ folded n f k =
          get_or-tabulate n (folded n f) k low in
          omega (arith, none, rest, quotient_at n f k, folded-later n f k)
      | inr high ↦
          let some : shifted_at n (quotient_of n f) k ≡ get_or (quotient_of n f) (k - n) 0 =
          ap (λ (y : _). cond y 0 (get_or (quotient_of n f) (k - n) 0)) (le-ltb k n high) in
          let rest : get_or (tabulate n (folded n f)) k 0 ≡ 0 =
          get_or_past (tabulate n (folded n f)) k 0
          (omega (arith, length-tabulate n (folded n f))) in
          omega (
            arith,
            some,
            rest,
            quotient_at n f k,
            quotient_at n f (k - n),
            later-earlier n f k pos high,
            folded-later n f k,
          )
    ]

length-remainder_of : (n : ℕ) (f : List ℕ) → length (remainder_of n f) ≡ n
unfolding remainder_of
length-remainder_of n f = length-tabulate n (folded n f)

pub division_exists : (n : ℕ) (f : List ℕ) → 0 < n
    → (q : List ℕ) × ((r : List ℕ) × IsDivision n f q r)
division_exists n f pos = (
  quotient_of n f,
  (
    remainder_of n f,
    record {
      small = omega (arith, length-remainder_of n f);
      coefficient = λ k. ap (λ (y : ℕ). y % P) (division_at n f k pos);
    },
  ),
)
