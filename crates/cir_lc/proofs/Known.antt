-- A linear combination is known by its numbers.
use Rattle.std.proofs.Common.{◌≡◌, ℕ, zero, suc, ◌+◌, ◌-◌, ◌*◌, ◌%◌, ◌<◌, ◌≤◌, ◌==◌, ◌&&◌, Bool}
use Rattle.std.proofs.Common.{true, false, cond, Some, None, List, [], ◌∷◌, length, arith, refl, ap}
use Rattle.std.proofs.Common.{sym, ◌∙◌, ◌⊎◌, inl, inr, mod-eq_of_lt}
use Rattle.std.proofs.lemmas.List.Elements.{All-head, All-tail}
use Rattle.std.proofs.lemmas.Bool.{cases_lt, cases_eq, eq-eqb}
use Rattle.std.proofs.Math.Dec.{eqb-suc-zero}
use Rattle.std.proofs.Math.Bool.{and-false}
use Rattle.gold_field.specs.declared.form.Term.{Term}
use Rattle.gold_field.specs.declared.gold.TheConstants.{P}
use Rattle.gold_field.specs.Rises.{RisesFrom}
use Rattle.cir_lc.specs.Number.{Number, value_of}
use Rattle.cir_lc.specs.Coefficient.{one_at, unit_at, origin, unit, coefficient, counted}
use Rattle.cir_lc.specs.Coefficient.{terms_below, is_constant, constant_in}
use Rattle.cir_lc.specs.Normal.{constant_of}
use Rattle.cir_lc.specs.Terms.{IsWithin}
use Rattle.cir_lc.specs.Merge.{total}
use Rattle.cir_lc.proofs.Totals.{total-nil, total-cons}
use Rattle.cir_lc.proofs.Values.{value-total}

abbrev Small : ℕ → Term → Type 0
Small n t = (t.signal < n) × (t.coef < P)

-- the coefficient of signal k
abbrev pub coef_of : ℕ → List Term → ℕ
coef_of k ts = total (one_at k) ts

pub one_here : (k j : ℕ) → k ≡ j → one_at k j ≡ 1
one_here zero zero e = refl
one_here zero (suc j) e = cc
one_here (suc k) zero e = cc
one_here (suc k) (suc j) e = one_here k j (omega arith)

pub none_apart : (k j : ℕ) → (k < j) ⊎ (j < k) → one_at k j ≡ 0
none_apart zero zero (inl h) = absurd (omega arith)
none_apart zero zero (inr h) = absurd (omega arith)
none_apart zero (suc j) h = refl
none_apart (suc k) zero h = refl
none_apart (suc k) (suc j) (inl h) = none_apart k j (inl (omega arith))
none_apart (suc k) (suc j) (inr h) = none_apart k j (inr (omega arith))

pub coef_here : (t : Term) (ts : List Term)
    → coef_of t.signal (t ∷ ts) ≡ t.coef + coef_of t.signal ts
coef_here t ts =
    total-cons (one_at t.signal) t ts
    ∙ omega (arith, ap (λ (n : ℕ). t.coef * n) (one_here t.signal t.signal refl))

pub coef_apart : (k : ℕ) (t : Term) (ts : List Term) → (k < t.signal) ⊎ (t.signal < k)
    → coef_of k (t ∷ ts) ≡ coef_of k ts
coef_apart k t ts h =
    total-cons (one_at k) t ts ∙ omega (arith, ap (λ (n : ℕ). t.coef * n) (none_apart k t.signal h))

-- signals below the first have none
pub coef_below : (k low : ℕ) (ts : List Term) → k < low → RisesFrom low ts → coef_of k ts ≡ 0
coef_below k low [] l h = total-nil (one_at k)
coef_below k low (t ∷ ts) l h =
    coef_apart k t ts (inl (omega (arith, h.0)))
    ∙ coef_below k (t.signal + 1) ts (omega (arith, h.0)) h.2

pub coef_small : (k low n : ℕ) (ts : List Term) → RisesFrom low ts → IsWithin n ts
    → coef_of k ts < P
coef_small k low n [] h w = omega (arith, total-nil (one_at k))
coef_small k low n (t ∷ ts) h w =
    let rest : coef_of k ts < P =
    coef_small k (t.signal + 1) n ts h.2 (All-tail (Small n) t ts w) in
    let first : t.coef < P = (All-head (Small n) t ts w).1 in
    elim (cases_lt k t.signal) [
      | inl l ↦ omega (arith, coef_apart k t ts (inl l))
      | inr m ↦ elim (cases_lt t.signal k) [
        | inl l ↦ omega (arith, coef_apart k t ts (inr l))
        | inr l ↦
            let same : k ≡ t.signal = omega arith in
            let none : coef_of t.signal ts ≡ 0 =
            coef_below t.signal (t.signal + 1) ts (omega arith) h.2 in
            omega (arith, coef_here t ts, ap (λ (j : ℕ). coef_of j (t ∷ ts)) same)
      ]
    ]

-- two lists with the same coefficients are one
term_same : (t u : Term) → t.signal ≡ u.signal → t.coef ≡ u.coef → t ≡ u
term_same t u a b = λ i. record { signal = a i; coef = b i }

above_none : (t : Term) (ts us : List Term) (low high : ℕ) → RisesFrom low (t ∷ ts)
    → RisesFrom high us → t.signal < high → coef_of t.signal (t ∷ ts) ≡ coef_of t.signal us → ⊥
above_none t ts us low high p q l e =
    omega (arith, p.1, coef_here t ts, coef_below t.signal high us l q)

same_coef : (t u : Term) (ts us : List Term) → RisesFrom (t.signal + 1) ts
    → RisesFrom (u.signal + 1) us → t.signal ≡ u.signal
    → coef_of t.signal (t ∷ ts) ≡ coef_of t.signal (u ∷ us) → t.coef ≡ u.coef
same_coef t u ts us p q s e =
    let here : coef_of t.signal (u ∷ us) ≡ coef_of u.signal (u ∷ us) =
    ap (λ (j : ℕ). coef_of j (u ∷ us)) s in
    omega (
      arith,
      coef_here t ts,
      coef_here u us,
      coef_below t.signal (t.signal + 1) ts (omega arith) p,
      coef_below u.signal (u.signal + 1) us (omega arith) q,
    )

rest_coefs : (t u : Term) (ts us : List Term) → RisesFrom (t.signal + 1) ts
    → RisesFrom (u.signal + 1) us → t.signal ≡ u.signal → (k : ℕ)
    → coef_of k (t ∷ ts) ≡ coef_of k (u ∷ us) → coef_of k ts ≡ coef_of k us
rest_coefs t u ts us p q s k e =
    elim (cases_lt t.signal k) [
      | inl l ↦ sym (coef_apart k t ts (inr l)) ∙ e ∙ coef_apart k u us (inr (omega arith))
      | inr l ↦ coef_below k (t.signal + 1) ts (omega arith) p
          ∙ sym (coef_below k (u.signal + 1) us (omega arith) q)
    ]

pub same_forms : (low high : ℕ) (ts us : List Term) → RisesFrom low ts → RisesFrom high us
    → ((k : ℕ) → coef_of k ts ≡ coef_of k us) → ts ≡ us
same_forms low high [] [] p q h = refl
same_forms low high [] (u ∷ us) p q h =
    absurd (omega (arith, q.1, h u.signal, coef_here u us, total-nil (one_at u.signal)))
same_forms low high (t ∷ ts) [] p q h =
    absurd (omega (arith, p.1, h t.signal, coef_here t ts, total-nil (one_at t.signal)))
same_forms low high (t ∷ ts) (u ∷ us) p q h =
    elim (cases_lt t.signal u.signal) [
      | inl l ↦
          absurd (above_none t ts (u ∷ us) low u.signal p (omega arith, q.1, q.2) l (h t.signal))
      | inr m ↦ elim (cases_lt u.signal t.signal) [
        | inl l ↦
            absurd (above_none u us (t ∷ ts) high t.signal q (omega arith, p.1, p.2) l
            (sym (h u.signal)))
        | inr l ↦
            let s : t.signal ≡ u.signal = omega arith in
            let first : t ≡ u = term_same t u s (same_coef t u ts us p.2 q.2 s (h t.signal)) in
            let rest : ts ≡ us =
            same_forms (t.signal + 1) (u.signal + 1) ts us p.2 q.2
            (λ k. rest_coefs t u ts us p.2 q.2 s k (h k)) in
            ap (λ (x : Term). x ∷ ts) first ∙ ap (λ (xs : List Term). u ∷ xs) rest
      ]
    ]

-- the coefficients of the numbers are those of the list
unit_split : (k j : ℕ) → unit_at k j ≡ one_at 0 j + one_at (suc k) j
unit_split k zero = refl
unit_split k (suc j) = omega arith

total-unit : (k : ℕ) (ts : List Term) → total (unit_at k) ts ≡ coef_of 0 ts + coef_of (suc k) ts
total-unit k [] =
    omega (arith, total-nil (unit_at k), total-nil (one_at 0), total-nil (one_at (suc k)))
total-unit k (t ∷ ts) =
    omega (
      arith,
      total-unit k ts,
      total-cons (unit_at k) t ts,
      total-cons (one_at 0) t ts,
      total-cons (one_at (suc k)) t ts,
      ap (λ (n : ℕ). t.coef * n) (unit_split k t.signal),
    )

pub value_origin : (ts : List Term) → value_of ts origin ≡ coef_of 0 ts % P
unfolding origin
value_origin ts = value-total origin ts

pub value_unit : (k : ℕ) (ts : List Term)
    → value_of ts (unit k) ≡ (coef_of 0 ts + coef_of (suc k) ts) % P
unfolding unit
value_unit k ts = value-total (unit k) ts ∙ ap (λ (n : ℕ). n % P) (total-unit k ts)

difference : (u o c d : ℕ) → o ≡ c % P → u ≡ (c + d) % P → c < P → d < P → (u + (P - o)) % P ≡ d
difference u o c d e f lc ld = omega arith

pub coefficient_is : (n k : ℕ) (ts : List Term) → RisesFrom 0 ts → IsWithin n ts
    → coefficient (value_of ts) k ≡ coef_of k ts
coefficient_is n zero ts h w =
    value_origin ts ∙ mod-eq_of_lt {n = coef_of 0 ts} {m = P} (coef_small 0 0 n ts h w)
coefficient_is n (suc k) ts h w =
    difference (value_of ts (unit k)) (value_of ts origin) (coef_of 0 ts) (coef_of (suc k) ts)
    (value_origin ts) (value_unit k ts) (coef_small 0 0 n ts h w)
    (coef_small (suc k) 0 n ts h w)

-- a list is known by its numbers
pub known : (n : ℕ) (ts us : List Term) → RisesFrom 0 ts → RisesFrom 0 us → IsWithin n ts
    → IsWithin n us → value_of ts ≡ value_of us → ts ≡ us
known n ts us p q v w e =
    same_forms 0 0 ts us p q (λ k. sym (coefficient_is n k ts p v)
    ∙ ap (λ (f : Number). coefficient f k) e ∙ coefficient_is n k us q w)

-- its length is the number of coefficients
abbrev count_below : ℕ → List Term → ℕ
count_below zero ts = 0
count_below (suc n) ts = count_below n ts + counted (coef_of n ts)

counted_above : (k : ℕ) → 0 < k → counted k ≡ 1
counted_above zero h = absurd (omega arith)
counted_above (suc k) h = refl

count_before : (n : ℕ) (t : Term) (ts : List Term) → n ≤ t.signal
    → count_below n (t ∷ ts) ≡ count_below n ts
count_before zero t ts l = refl
count_before (suc n) t ts l =
    omega (
      arith,
      count_before n t ts (omega arith),
      ap counted (coef_apart n t ts (inl (omega arith))),
    )

count_after : (n low : ℕ) (t : Term) (ts : List Term) → RisesFrom low (t ∷ ts) → t.signal < n
    → count_below n (t ∷ ts) ≡ count_below n ts + 1
count_after zero low t ts h l = absurd (omega arith)
count_after (suc n) low t ts h l =
    elim (cases_lt t.signal n) [
      | inl m ↦ omega (arith, count_after n low t ts h m, ap counted (coef_apart n t ts (inr m)))
      | inr m ↦
          let same : t.signal ≡ n = omega arith in
          let none : coef_of n ts ≡ 0 = coef_below n (t.signal + 1) ts (omega arith) h.2 in
          let some : 0 < coef_of n (t ∷ ts) =
          omega (arith, h.1, coef_here t ts, ap (λ (j : ℕ). coef_of j (t ∷ ts)) same) in
          omega (
            arith,
            count_before n t ts (omega arith),
            counted_above (coef_of n (t ∷ ts)) some,
            ap counted none,
          )
    ]

count_none : (n : ℕ) → count_below n [] ≡ 0
count_none zero = refl
count_none (suc n) = omega (arith, count_none n, ap counted (total-nil (one_at n)))

count_all : (n low : ℕ) (ts : List Term) → RisesFrom low ts → IsWithin n ts
    → count_below n ts ≡ length ts
count_all n low [] h w = count_none n
count_all n low (t ∷ ts) h w =
    count_after n low t ts h (All-head (Small n) t ts w).0
    ∙ omega (arith, count_all n (t.signal + 1) ts h.2 (All-tail (Small n) t ts w))

count_same : (m n : ℕ) (ts : List Term) → RisesFrom 0 ts → IsWithin m ts
    → terms_below n (value_of ts) ≡ count_below n ts
count_same m zero ts h w = refl
count_same m (suc n) ts h w =
    omega (arith, count_same m n ts h w, ap counted (coefficient_is m n ts h w))

pub terms_are : (n : ℕ) (ts : List Term) → RisesFrom 0 ts → IsWithin n ts
    → terms_below n (value_of ts) ≡ length ts
terms_are n ts h w = count_same n n ts h w ∙ count_all n 0 ts h w

-- and it is a constant where no signal but 0 has one
none_constant : (m n : ℕ) (ts : List Term) → RisesFrom 0 ts → IsWithin m ts
    → ((k : ℕ) → 0 < k → coef_of k ts ≡ 0) → is_constant n (value_of ts) ≡ true
none_constant m zero ts h w z = refl
none_constant m (suc n) ts h w z =
    let first : is_constant n (value_of ts) ≡ true = none_constant m n ts h w z in
    let second : coefficient (value_of ts) (suc n) ≡ 0 =
    coefficient_is m (suc n) ts h w ∙ z (suc n) (omega arith) in
    rw (first, second) refl

nonzero_test : (k : ℕ) → 0 < k → (k == 0) ≡ false
nonzero_test zero h = absurd (omega arith)
nonzero_test (suc k) h = eqb-suc-zero k

some_constant : (m n j : ℕ) (ts : List Term) → RisesFrom 0 ts → IsWithin m ts → 0 < j → j ≤ n
    → 0 < coef_of j ts → is_constant n (value_of ts) ≡ false
some_constant m zero j ts h w p l c = absurd (omega arith)
some_constant m (suc n) j ts h w p l c =
    elim (cases_lt j (suc n)) [
      | inl lt ↦
          ap (λ (b : Bool). b && (coefficient (value_of ts) (suc n) == 0))
          (some_constant m n j ts h w p (omega arith) c)
      | inr ge ↦
          let same : j ≡ suc n = omega arith in
          let some : 0 < coefficient (value_of ts) (suc n) =
          omega (arith, coefficient_is m (suc n) ts h w, ap (λ (k : ℕ). coef_of k ts) same) in
          ap (λ (b : Bool). is_constant n (value_of ts) && b)
          (nonzero_test (coefficient (value_of ts) (suc n)) some)
          ∙ and-false (is_constant n (value_of ts))
    ]

if_constant : (n k : ℕ) (f : Number) → is_constant n f ≡ true → f origin ≡ k
    → constant_in n f ≡ Some k
if_constant n k f h e =
    ap (λ (b : Bool). cond b (Some (f origin)) None) h ∙ ap (λ (k : ℕ). Some k) e

if_not : (n : ℕ) (f : Number) → is_constant n f ≡ false → constant_in n f ≡ None
if_not n f h = ap (λ (b : Bool). cond b (Some (f origin)) None) h

one_term : (n : ℕ) (t : Term) → RisesFrom 0 (t ∷ []) → IsWithin (suc n) (t ∷ []) → (t.signal ≡ 0)
    ⊎ (t.signal ≡ 0 → ⊥) → constant_in n (value_of (t ∷ [])) ≡ constant_of (t ∷ [])
one_term n t h w (inl e) =
    let zeros : (k : ℕ) → 0 < k → coef_of k (t ∷ []) ≡ 0 =
    λ k p. coef_apart k t [] (inr (omega arith)) ∙ total-nil (one_at k) in
    let value : value_of (t ∷ []) origin ≡ t.coef =
    value_origin (t ∷ [])
    ∙ mod-eq_of_lt {n = coef_of 0 (t ∷ [])} {m = P} (coef_small 0 0 (suc n) (t ∷ []) h w)
    ∙ omega (
      arith,
      ap (λ (j : ℕ). coef_of j (t ∷ [])) e,
      coef_here t [],
      total-nil (one_at t.signal),
    ) in
    if_constant n t.coef (value_of (t ∷ [])) (none_constant (suc n) n (t ∷ []) h w zeros) value
    ∙ ap (λ (b : Bool). cond b (Some t.coef) None) (sym (eq-eqb t.signal 0 e))
one_term n t h w (inr ne) =
    let some : 0 < coef_of t.signal (t ∷ []) = omega (arith, h.1, coef_here t []) in
    let low : t.signal < suc n = (All-head (Small (suc n)) t [] w).0 in
    if_not n (value_of (t ∷ []))
    (some_constant (suc n) n t.signal (t ∷ []) h w (omega arith) (omega arith) some)
    ∙ ap (λ (b : Bool). cond b (Some t.coef) None) (sym (nonzero_test t.signal (omega arith)))

pub constant_is : (n : ℕ) (ts : List Term) → RisesFrom 0 ts → IsWithin (suc n) ts
    → constant_in n (value_of ts) ≡ constant_of ts
constant_is n [] h w =
    if_constant n 0 (value_of []) (none_constant (suc n) n [] h w (λ k p. total-nil (one_at k)))
    (value_origin [] ∙ ap (λ (k : ℕ). k % P) (total-nil (one_at 0)))
constant_is n (t ∷ []) h w = one_term n t h w (cases_eq t.signal 0)
constant_is n (t ∷ (u ∷ ts)) h w =
    let some : 0 < coef_of u.signal (t ∷ (u ∷ ts)) =
    omega (
      arith,
      h.2.0,
      h.2.1,
      coef_apart u.signal t (u ∷ ts) (inr (omega (arith, h.2.0))),
      coef_here u ts,
    ) in
    let low : u.signal < suc n =
    (All-head (Small (suc n)) u ts (All-tail (Small (suc n)) t (u ∷ ts) w)).0 in
    if_not n (value_of (t ∷ (u ∷ ts)))
    (some_constant (suc n) n u.signal (t ∷ (u ∷ ts)) h w (omega (arith, h.2.0))
    (omega arith) some)
