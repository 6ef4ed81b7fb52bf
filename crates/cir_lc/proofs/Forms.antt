-- The form of a linear number.
use Rattle.std.proofs.Common.{◌≡◌, ℕ, zero, suc, ◌+◌, ◌-◌, ◌*◌, ◌%◌, ◌<◌, ◌≤◌, List, [], ◌∷◌, ◌++◌}
use Rattle.std.proofs.Common.{All, arith, refl, ap, sym, ◌∙◌, inl, inr, mod-lt, lit<}
use Rattle.std.proofs.Math.Nat.{mod-add-mod, add-mod-mod}
use Rattle.std.proofs.lemmas.Nat.{mul-mod_first}
use Rattle.std.proofs.lemmas.List.{append-nil}
use Rattle.std.proofs.lemmas.List.Elements.{All-nil, All-cons, All-head, All-tail, All-append}
use Rattle.std.proofs.lemmas.List.Elements.{All-weaker}
use Rattle.std.proofs.lemmas.Bool.{cases_lt}
use Rattle.gold_field.specs.declared.form.Term.{Term}
use Rattle.gold_field.specs.declared.form.Constraint.{Constraint}
use Rattle.gold_field.specs.declared.gold.TheConstants.{P}
use Rattle.gold_field.specs.Rises.{RisesFrom}
use Rattle.cir_lc.specs.declared.quad.Quad.{Quad}
use Rattle.cir_lc.specs.Number.{Assignment, Number, value_of}
use Rattle.cir_lc.specs.Coefficient.{one_at, origin, unit, coefficient}
use Rattle.cir_lc.specs.Terms.{IsWithin, term_of}
use Rattle.cir_lc.specs.Normal.{IsNormal}
use Rattle.cir_lc.specs.Sparse.{form_of, normal_of}
use Rattle.cir_lc.specs.Merge.{total}
use Rattle.cir_lc.proofs.Totals.{total-nil, total-cons, total-append}
use Rattle.cir_lc.proofs.Steps.{total-term}
use Rattle.cir_lc.proofs.Values.{value-total}
use Rattle.cir_lc.proofs.Known.{coef_of, one_here, none_apart, coef_apart, coefficient_is}
use Rattle.cir_lc.proofs.Known.{same_forms, value_origin, value_unit}

abbrev Small : ℕ → Term → Type 0
Small n t = (t.signal < n) × (t.coef < P)

-- names signals below n alone
abbrev Named : ℕ → Term → Type 0
Named n t = t.signal < n

abbrev pub IsNaming : ℕ → List Term → Type 0
IsNaming n ts = All (λ t. t.signal < n) ts

pub naming_term : (n g c : ℕ) → g < n → IsNaming n (term_of g c)
naming_term n g zero h = All-nil (Named n)
naming_term n g (suc c) h =
    All-cons (Named n) (record { signal = g; coef = suc c }) [] h (All-nil (Named n))

pub naming_more : (n m : ℕ) (ts : List Term) → n ≤ m → IsNaming n ts → IsNaming m ts
naming_more n m ts l h = All-weaker (Named n) (Named m) (λ t p. omega arith) ts h

pub naming_within : (n : ℕ) (ts : List Term) → IsWithin n ts → IsNaming n ts
naming_within n ts h = All-weaker (Small n) (Named n) (λ t p. p.0) ts h

pub form_naming : (n : ℕ) (f : Number) → IsNaming n (form_of n f)
form_naming zero f = All-nil (Named 0)
form_naming (suc n) f =
    All-append (Named (suc n)) (form_of n f) (term_of n (coefficient f n))
    (naming_more n (suc n) (form_of n f) (omega arith) (form_naming n f))
    (naming_term (suc n) n (coefficient f n) (omega arith))

-- the form rises
rises_more : (low n c : ℕ) (ts : List Term) → low ≤ n → RisesFrom low ts → IsNaming n ts
    → RisesFrom low (ts ++ term_of n c)
rises_more low n zero ts l h b = rw append-nil h
rises_more low n (suc c) [] l h b = (l, omega arith, tt)
rises_more low n (suc c) (t ∷ ts) l h b =
    let first : t.signal < n = All-head (Named n) t ts b in
    (h.0, h.1, rises_more (t.signal + 1) n (suc c) ts (omega arith) h.2 (All-tail (Named n) t ts b))

pub form_rises : (n : ℕ) (f : Number) → RisesFrom 0 (form_of n f)
form_rises zero f = tt
form_rises (suc n) f =
    rises_more 0 n (coefficient f n) (form_of n f) (omega arith) (form_rises n f) (form_naming n f)

-- its coefficients are those of the number
coef_past : (n k : ℕ) (f : Number) → n ≤ k → coef_of k (form_of n f) ≡ 0
coef_past zero k f l = total-nil (one_at k)
coef_past (suc n) k f l =
    total-append (one_at k) (form_of n f) (term_of n (coefficient f n))
    ∙ omega (
      arith,
      coef_past n k f (omega arith),
      total-term (one_at k) n (coefficient f n),
      ap (λ (m : ℕ). coefficient f n * m) (none_apart k n (inr (omega arith))),
    )

form_coef : (n k : ℕ) (f : Number) → k < n → coef_of k (form_of n f) ≡ coefficient f k
form_coef zero k f l = absurd (omega arith)
form_coef (suc n) k f l =
    elim (cases_lt k n) [
      | inl m ↦
          total-append (one_at k) (form_of n f) (term_of n (coefficient f n))
          ∙ omega (
            arith,
            form_coef n k f m,
            total-term (one_at k) n (coefficient f n),
            ap (λ (j : ℕ). coefficient f n * j) (none_apart k n (inl m)),
          )
      | inr m ↦
          let same : k ≡ n = omega arith in
          total-append (one_at k) (form_of n f) (term_of n (coefficient f n))
          ∙ omega (
            arith,
            coef_past n k f m,
            total-term (one_at k) n (coefficient f n),
            ap (λ (j : ℕ). coefficient f n * j) (one_here k n same),
            ap (coefficient f) same,
          )
    ]

-- a signal that isn't named has none
coef_unnamed : (n k : ℕ) (ts : List Term) → n ≤ k → IsNaming n ts → coef_of k ts ≡ 0
coef_unnamed n k [] l h = total-nil (one_at k)
coef_unnamed n k (t ∷ ts) l h =
    let first : t.signal < n = All-head (Named n) t ts h in
    coef_apart k t ts (inr (omega arith)) ∙ coef_unnamed n k ts l (All-tail (Named n) t ts h)

-- a form is the form of its numbers
pub form_known : (n : ℕ) (ts : List Term) (f : Number) → RisesFrom 0 ts → IsWithin n ts
    → value_of ts ≡ f → ts ≡ form_of n f
form_known n ts f h w e = same_forms 0 0 ts (form_of n f) h (form_rises n f) each
  where
    each : (k : ℕ) → coef_of k ts ≡ coef_of k (form_of n f)
    each k =
        elim (cases_lt k n) [
          | inl l ↦ sym (coefficient_is n k ts h w) ∙ ap (λ (g : Number). coefficient g k) e
              ∙ sym (form_coef n k f l)
          | inr l ↦ coef_unnamed n k ts l (naming_within n ts w) ∙ sym (coef_past n k f l)
        ]

-- the coefficients of any list of terms
difference : (u o c d : ℕ) → o ≡ c % P → u ≡ (c + d) % P → (u + (P - o)) % P ≡ d % P
difference u o c d e f = omega arith

pub coefficient_any : (k : ℕ) (ts : List Term) → coefficient (value_of ts) k ≡ coef_of k ts % P
coefficient_any zero ts = value_origin ts
coefficient_any (suc k) ts =
    difference (value_of ts (unit k)) (value_of ts origin) (coef_of 0 ts) (coef_of (suc k) ts)
    (value_origin ts) (value_unit k ts)

-- the sum of the first n terms
abbrev upto : ℕ → (ℕ → ℕ) → ℕ
upto zero g = 0
upto (suc n) g = upto n g + g n

upto_zero : (n : ℕ) (g : ℕ → ℕ) → ((k : ℕ) → k < n → g k ≡ 0) → upto n g ≡ 0
upto_zero zero g h = refl
upto_zero (suc n) g h = omega (arith, upto_zero n g (λ k l. h k (omega arith)), h n (omega arith))

upto_one : (n j a : ℕ) (s : ℕ → ℕ) → j < n → upto n (λ k. a * one_at k j * s k) ≡ a * s j
upto_one zero j a s l = absurd (omega arith)
upto_one (suc n) j a s l =
    elim (cases_lt j n) [
      | inl m ↦
          omega (arith, upto_one n j a s m, ap (λ (o : ℕ). a * o * s n) (none_apart n j (inr m)))
      | inr m ↦
          let same : n ≡ j = omega arith in
          let none : upto n (λ k. a * one_at k j * s k) ≡ 0 =
          upto_zero n (λ k. a * one_at k j * s k)
          (λ k q. omega
          (arith, ap (λ (o : ℕ). a * o * s k) (none_apart k j (inl (omega arith))))) in
          omega (
            arith,
            none,
            ap (λ (o : ℕ). a * o * s n) (one_here n j same),
            ap (λ (i : ℕ). a * s i) same,
          )
    ]

upto_sum : (n : ℕ) (g h r : ℕ → ℕ) → ((k : ℕ) → r k ≡ g k + h k) → upto n r ≡ upto n g + upto n h
upto_sum zero g h r e = refl
upto_sum (suc n) g h r e = omega (arith, upto_sum n g h r e, e n)

total_spread : (n : ℕ) (s : ℕ → ℕ) (ts : List Term) → IsNaming n ts
    → total s ts ≡ upto n (λ k. coef_of k ts * s k)
total_spread n s [] w = total-nil s
    ∙ sym (upto_zero n (λ k. coef_of k [] * s k)
    (λ k l. omega (arith, ap (λ (c : ℕ). c * s k) (total-nil (one_at k)))))
total_spread n s (t ∷ ts) w =
    let first : t.signal < n = All-head (Named n) t ts w in
    let each : (k : ℕ)
    → coef_of k (t ∷ ts) * s k ≡ t.coef * one_at k t.signal * s k + coef_of k ts * s k =
    λ k. ap (λ (c : ℕ). c * s k) (total-cons (one_at k) t ts) ∙ omega arith in
    omega (
      arith,
      total-cons s t ts,
      upto_one n t.signal t.coef s first,
      total_spread n s ts (All-tail (Named n) t ts w),
      upto_sum n (λ k. t.coef * one_at k t.signal * s k) (λ k. coef_of k ts * s k)
          (λ k. coef_of k (t ∷ ts) * s k) each,
    )

total_form : (n : ℕ) (s : ℕ → ℕ) (f : Number)
    → total s (form_of n f) ≡ upto n (λ k. coefficient f k * s k)
total_form zero s f = total-nil s
total_form (suc n) s f =
    total-append s (form_of n f) (term_of n (coefficient f n))
    ∙ omega (arith, total_form n s f, total-term s n (coefficient f n))

upto_mod : (n : ℕ) (s c d : ℕ → ℕ) → ((k : ℕ) → c k ≡ d k % P)
    → upto n (λ k. c k * s k) % P ≡ upto n (λ k. d k * s k) % P
upto_mod zero s c d e = refl
upto_mod (suc n) s c d e =
    sym (mod-add-mod (upto n (λ k. c k * s k)) P (c n * s n))
    ∙ sym (add-mod-mod (upto n (λ k. c k * s k) % P) (c n * s n) P)
    ∙ ap (λ (m : ℕ). (upto n (λ k. c k * s k) % P + m) % P) (ap (λ (m : ℕ). (m * s n) % P) (e n)
    ∙ mul-mod_first (d n) (s n) P)
    ∙ ap (λ (m : ℕ). (m + (d n * s n) % P) % P) (upto_mod n s c d e)
    ∙ add-mod-mod (upto n (λ k. d k * s k) % P) (d n * s n) P
    ∙ mod-add-mod (upto n (λ k. d k * s k)) P (d n * s n)

-- the form of a list's numbers has these numbers
pub form_value : (n : ℕ) (ts : List Term) → IsNaming n ts → value_of (form_of n (value_of ts))
    ≡ value_of ts
form_value n ts w = λ i s. at s i
  where
    at : (s : Assignment) → value_of (form_of n (value_of ts)) s ≡ value_of ts s
    at s =
        value-total s (form_of n (value_of ts))
        ∙ ap (λ (m : ℕ). m % P) (total_form n s.at (value_of ts))
        ∙ upto_mod n s.at (coefficient (value_of ts)) (λ k. coef_of k ts)
        (λ k. coefficient_any k ts)
        ∙ ap (λ (m : ℕ). m % P) (sym (total_spread n s.at ts w)) ∙ sym (value-total s ts)

-- its coefficients are numbers of the field
form_small : (n : ℕ) (ts : List Term) (m : ℕ) → m ≤ n → IsWithin n (form_of m (value_of ts))
form_small n ts zero l = All-nil (Small n)
form_small n ts (suc m) l =
    All-append (Small n) (form_of m (value_of ts)) (term_of m (coefficient (value_of ts) m))
    (form_small n ts m (omega arith))
    (small_term m (coefficient (value_of ts) m) (omega arith)
    (omega (arith, coefficient_any m ts, mod-lt (coef_of m ts) {m = P} (lit< tt))))
  where
    small_term : (g c : ℕ) → g < n → c < P → IsWithin n (term_of g c)
    small_term g zero h k = All-nil (Small n)
    small_term g (suc c) h k =
        All-cons (Small n) (record { signal = g; coef = suc c }) [] (h, k) (All-nil (Small n))

pub form_within : (n : ℕ) (ts : List Term) → IsWithin n (form_of n (value_of ts))
form_within n ts = form_small n ts n (omega arith)

-- and so is a normal constraint
pub normal_known : (n : ℕ) (q : Quad) (k : Constraint) → IsNormal q k → RisesFrom 0 k.c
    → IsWithin n k.c → k ≡ normal_of n q
normal_known n q k h r w =
    let left = h.left in
    let right = h.right in
    let rest = form_known n k.c _ r w h.rest in
    λ i. record { a = left i; b = right i; c = rest i }
