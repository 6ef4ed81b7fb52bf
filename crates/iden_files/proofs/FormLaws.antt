-- The linear combination of terms is the one rising form with the same coefficients.
use Rattle.std.proofs.Common.{◌≡◌, ◌≢◌, ℕ, zero, suc, ◌+◌, ◌%◌, ◌<◌, ◌≤◌, cond, eqb, ltb, List, []}
use Rattle.std.proofs.Common.{◌∷◌, ◌++◌, length, get_or, All, sum_by, refl, sym, ap, subst, ◌∙◌}
use Rattle.std.proofs.Common.{inl, inr, arith, zero-add}
use Rattle.std.specs.List.Sorted.{IsPermutation, IsNonDecreasingBy}
use Rattle.std.proofs.lemmas.Bool.{cases_eq, cases_lt, eq-eqb, ne_eqb, lt-ltb, le-ltb}
use Rattle.std.proofs.lemmas.List.Elements.{All-head, All-tail, All-cons, All-append, All-nil}
use Rattle.std.proofs.lemmas.List.Sums.{sum_by-append, sum_by-cons, sum_by-le}
use Rattle.std.proofs.lemmas.List.Sorted.{All-permutation, sum_by-IsPermutation}
use Rattle.gold_field.specs.declared.form.Term.{Term}
use Rattle.gold_field.specs.declared.gold.TheConstants.{P}
use Rattle.gold_field.specs.Rises.{RisesFrom}
use Rattle.gold_field.specs.declared.form.Constraint.{Constraint}
use Rattle.gold_field.specs.Form.{ConstraintBelow}
use Rattle.iden_files.specs.File.{term_count}
use Rattle.iden_files.specs.Meaning.{IsTermOver, coefficient, form_from, form_of, meaning}
use Rattle.iden_files.specs.Merging.{closed, merged}

-- the value that a term has for a wire
abbrev pub value_for : ℕ → Term → ℕ
value_for wire t = cond (eqb t.signal wire) t.coef 0

pub value_same : (wire : ℕ) (t : Term) → t.signal ≡ wire → value_for wire t ≡ t.coef
value_same wire t e = rw (eq-eqb t.signal wire e) refl

pub value_other : (wire : ℕ) (t : Term) → t.signal ≢ wire → value_for wire t ≡ 0
value_other wire t e = rw (ne_eqb t.signal wire e) refl

-- no term of a form from low on has a value for a wire below low
sum_below : (wire low : ℕ) (ts : List Term) → wire < low → RisesFrom low ts
    → sum_by (value_for wire) ts ≡ 0
sum_below wire low [] lt rises = refl
sum_below wire low (t ∷ ts) lt rises =
    let other : t.signal ≢ wire = omega (arith, rises.0) in
    let first = value_other wire t other in
    let others = sum_below wire (t.signal + 1) ts (omega (arith, rises.0)) rises.2 in
    omega (arith, first, others, sum_by-cons (value_for wire) t ts)

-- ---- the definition, one wire at a time

pub none_at : (n low : ℕ) (terms : List Term) → coefficient low terms ≡ 0
    → form_from low (suc n) terms ≡ form_from (low + 1) n terms
none_at n low terms e = rw (eq-eqb (coefficient low terms) 0 e) refl

pub some_at : (n low c : ℕ) (terms : List Term) → coefficient low terms ≡ c → 0 < c
    → form_from low (suc n) terms ≡ record { signal = low; coef = c } ∷ form_from (low + 1) n terms
some_at n low c terms e pos =
    let ne : coefficient low terms ≢ 0 = λ z. absurd (omega (arith, z, e, pos)) in
    let P : ℕ → Type 0 = λ d. record { signal = low; coef = coefficient low terms }
    ∷ form_from (low + 1) n terms ≡ record { signal = low; coef = d }
    ∷ form_from (low + 1) n terms in
    let same : P c = subst P e refl in
    rw (ne_eqb (coefficient low terms) 0 ne) same

pub is_form_from : (n low : ℕ) (ts terms : List Term) → RisesFrom low ts
    → All (IsTermOver (low + n)) ts
    → ((wire : ℕ) → low ≤ wire → coefficient wire ts ≡ coefficient wire terms)
    → form_from low n terms ≡ ts
is_form_from zero low [] terms rises over same = refl
is_form_from zero low (t ∷ ts) terms rises over same =
    absurd (omega (arith, rises.0, (All-head (IsTermOver (low + 0)) t ts over).signal))
is_form_from (suc n) low [] terms rises over same =
    let none : coefficient low terms ≡ 0 = sym (same low (omega arith)) in
    none_at n low terms none
    ∙ is_form_from n (low + 1) [] terms tt (λ k d lt. absurd (omega (arith, lt)))
    (λ wire le. same wire (omega (arith, le)))
is_form_from (suc n) low (t ∷ ts) terms rises over same =
    let wide : low + suc n ≡ low + 1 + n = omega arith in
    let Over : ℕ → Type 0 = λ m. All (IsTermOver m) (t ∷ ts) in
    let over' = subst Over wide over in
    let first = All-head (IsTermOver (low + 1 + n)) t ts over' in
    elim (cases_eq t.signal low) [
      | inl e ↦
          let ahead : RisesFrom (low + 1) ts =
          let F : ℕ → Type 0 = λ m. RisesFrom (m + 1) ts in subst F e rises.2 in
          let alone = sum_below low (low + 1) ts (omega arith) ahead in
          let here : coefficient low terms ≡ t.coef = sym (same low (omega arith))
          ∙ omega (
            arith,
            value_same low t e,
            alone,
            first.coef,
            sum_by-cons (value_for low) t ts,
          ) in
          let rest =
          is_form_from n (low + 1) ts terms ahead
          (All-tail (IsTermOver (low + 1 + n)) t ts over')
          (λ wire le. omega (
            arith,
            value_other wire t (λ z. absurd (omega (arith, z, e, le))),
            sum_by-cons (value_for wire) t ts,
          ) ∙ same wire (omega (arith, le))) in
          let H : ℕ
          → Type 0 = λ m. record { signal = m; coef = t.coef } ∷ form_from (low + 1) n terms
          ≡ t ∷ form_from (low + 1) n terms in
          some_at n low t.coef terms here rises.1 ∙ subst H e refl
          ∙ ap (λ (us : List Term). t ∷ us) rest
      | inr ne ↦
          let above : low + 1 ≤ t.signal = omega (arith, rises.0, ne) in
          let here : coefficient low terms ≡ 0 = sym (same low (omega arith))
          ∙ omega (
            arith,
            value_other low t ne,
            sum_below low (t.signal + 1) ts (omega (arith, above)) rises.2,
            sum_by-cons (value_for low) t ts,
          ) in
          none_at n low terms here
          ∙ is_form_from n (low + 1) (t ∷ ts) terms (above, rises.1, rises.2) over'
          (λ wire le. same wire (omega (arith, le)))
    ]

pub is_form_of : (wires : ℕ) (ts terms : List Term) → RisesFrom 0 ts → All (IsTermOver wires) ts
    → ((wire : ℕ) → coefficient wire ts ≡ coefficient wire terms) → ts ≡ form_of wires terms
unfolding form_of
is_form_of wires ts terms rises over same =
    let Over : ℕ → Type 0 = λ m. All (IsTermOver m) ts in
    sym (is_form_from wires 0 ts terms rises (subst Over (sym (zero-add wires)) over)
    (λ wire le. same wire))

-- a rising form means itself
pub form_of_form : (wires : ℕ) (ts : List Term) → RisesFrom 0 ts → All (IsTermOver wires) ts
    → ts ≡ form_of wires ts
form_of_form wires ts rises over = is_form_of wires ts ts rises over (λ wire. refl)

-- ---- what the definition gives

form_from_rises : (n low first : ℕ) (terms : List Term) → first ≤ low
    → RisesFrom first (form_from low n terms)
form_from_rises zero low first terms le = tt
form_from_rises (suc n) low first terms le =
    elim (cases_eq (coefficient low terms) 0) [
      | inl e ↦ let F : List Term → Type 0 = RisesFrom first
          in subst F (sym (none_at n low terms e))
          (form_from_rises n (low + 1) first terms (omega (arith, le)))
      | inr ne ↦
          let F : List Term → Type 0 = RisesFrom first in
          subst F (sym (some_at n low (coefficient low terms) terms refl (omega (arith, ne))))
          (le, omega (arith, ne), form_from_rises n (low + 1) (low + 1) terms (omega arith))
    ]

pub form_of_rises : (wires : ℕ) (terms : List Term) → RisesFrom 0 (form_of wires terms)
unfolding form_of
form_of_rises wires terms = form_from_rises wires 0 0 terms (omega arith)

form_from_over : (n low wires : ℕ) (terms : List Term) → low + n ≤ wires
    → All (λ (t : Term). t.signal < wires) (form_from low n terms)
form_from_over zero low wires terms le = All-nil (λ (t : Term). t.signal < wires)
form_from_over (suc n) low wires terms le =
    let F : List Term → Type 0 = λ ts. All (λ (t : Term). t.signal < wires) ts in
    elim (cases_eq (coefficient low terms) 0) [
      | inl e ↦
          subst F (sym (none_at n low terms e))
          (form_from_over n (low + 1) wires terms (omega (arith, le)))
      | inr ne ↦
          subst F (sym (some_at n low (coefficient low terms) terms refl (omega (arith, ne))))
          (All-cons (λ (t : Term). t.signal < wires)
          (record { signal = low; coef = coefficient low terms }) (form_from (low + 1) n terms)
          (omega (arith, le)) (form_from_over n (low + 1) wires terms (omega (arith, le))))
    ]

pub form_of_over : (wires : ℕ) (terms : List Term)
    → All (λ (t : Term). t.signal < wires) (form_of wires terms)
unfolding form_of
form_of_over wires terms = form_from_over wires 0 wires terms (omega arith)

-- 1 for a term with this wire
is_at : ℕ → Term → ℕ
is_at wire t = cond (eqb t.signal wire) 1 0

-- 1 for a term with this wire or a later one
is_from : ℕ → Term → ℕ
is_from low t = cond (ltb t.signal low) 0 1

from_one : (low : ℕ) (t : Term) → is_from low t ≡ is_from (low + 1) t + is_at low t
unfolding is_at is_from
from_one low t =
    elim (cases_lt t.signal low) [
      | inl lt ↦
          rw (
            lt-ltb t.signal low lt,
            lt-ltb t.signal (low + 1) (omega (arith, lt)),
            ne_eqb t.signal low (λ z. absurd (omega (arith, z, lt))),
          ) refl
      | inr le ↦ elim (cases_eq t.signal low) [
        | inl e ↦
            rw (
              le-ltb t.signal low le,
              lt-ltb t.signal (low + 1) (omega (arith, e)),
              eq-eqb t.signal low e,
            ) refl
        | inr ne ↦
            rw (
              le-ltb t.signal low le,
              le-ltb t.signal (low + 1) (omega (arith, ne, le)),
              ne_eqb t.signal low ne,
            ) refl
      ]
    ]

from_all : (low : ℕ) (terms : List Term)
    → sum_by (is_from low) terms ≡ sum_by (is_from (low + 1)) terms + sum_by (is_at low) terms
from_all low [] = refl
from_all low (t ∷ ts) =
    omega (
      arith,
      from_one low t,
      from_all low ts,
      sum_by-cons (is_from low) t ts,
      sum_by-cons (is_from (low + 1)) t ts,
      sum_by-cons (is_at low) t ts,
    )

nowhere : (low : ℕ) (terms : List Term) → sum_by (is_at low) terms ≡ 0
    → sum_by (value_for low) terms ≡ 0
unfolding is_at
nowhere low [] none = refl
nowhere low (t ∷ ts) none =
    elim (cases_eq t.signal low) [
      | inl e ↦ let one : is_at low t ≡ 1 = rw (eq-eqb t.signal low e) refl
          in absurd (omega (arith, one, none, sum_by-cons (is_at low) t ts))
      | inr ne ↦
          omega (
            arith,
            value_other low t ne,
            nowhere low ts (omega (arith, none, sum_by-cons (is_at low) t ts)),
            sum_by-cons (value_for low) t ts,
          )
    ]

form_from_len : (n low : ℕ) (terms : List Term)
    → length (form_from low n terms) ≤ sum_by (is_from low) terms
form_from_len zero low terms = omega arith
form_from_len (suc n) low terms =
    let later = form_from_len n (low + 1) terms in
    elim (cases_eq (coefficient low terms) 0) [
      | inl e ↦ omega (arith, ap length (none_at n low terms e), later, from_all low terms)
      | inr ne ↦
          let one : 0 < sum_by (is_at low) terms =
          elim (cases_eq (sum_by (is_at low) terms) 0) [
            | inl z ↦ absurd (ne (omega (arith, nowhere low terms z)))
            | inr pos ↦ omega (arith, pos)
          ] in
          omega (
            arith,
            ap length (some_at n low (coefficient low terms) terms refl (omega (arith, ne))),
            later,
            one,
            from_all low terms,
          )
    ]

from_at_most : (low : ℕ) (t : Term) → is_from low t ≤ 1
unfolding is_from
from_at_most low t =
    elim (cases_lt t.signal low) [
      | inl lt ↦ rw (lt-ltb t.signal low lt) (omega arith)
      | inr le ↦
          rw (le-ltb t.signal low le) (omega arith)
    ]

-- a linear combination has no more terms than are written
pub form_of_len : (wires : ℕ) (terms : List Term) → length (form_of wires terms) ≤ length terms
unfolding form_of
form_of_len wires terms =
    omega (
      arith,
      form_from_len wires 0 terms,
      sum_by-le (is_from 0) 1 terms (λ k d lt. from_at_most 0 (get_or terms k d)),
    )

pub meaning_below : (wires : ℕ) (k : Constraint) → ConstraintBelow wires (meaning wires k)
meaning_below wires k =
    record { a = form_of_over wires k.a; b = form_of_over wires k.b; c = form_of_over wires k.c }

pub meaning_len : (wires : ℕ) (k : Constraint)
    → term_count (meaning wires k) ≤ length k.a + length k.b + length k.c
meaning_len wires k =
    omega (arith, form_of_len wires k.a, form_of_len wires k.b, form_of_len wires k.c)

-- ---- merging

-- the signals never fall, the first of them from low on
abbrev pub ClimbsFrom : ℕ → List Term → Type 0
ClimbsFrom low [] = Unit {0}
ClimbsFrom low (t ∷ ts) = (low ≤ t.signal) × ClimbsFrom t.signal ts

pub climbs : (low : ℕ) (ts : List Term)
    → ((d : Term) → 0 < length ts → low ≤ (get_or ts 0 d).signal)
    → IsNonDecreasingBy (λ (t : Term). t.signal) ts → ClimbsFrom low ts
climbs low [] first sorted = tt
climbs low (t ∷ ts) first sorted = (
  first t (omega arith),
  climbs t.signal ts (λ d lt. sorted 0 1 d (omega arith) (omega (arith, lt)))
      (λ i j d le lt. sorted (suc i) (suc j) d (omega (arith, le)) (omega (arith, lt))),
)

closed_value : (wire : ℕ) (t : Term) → sum_by (value_for wire) (closed t) ≡ value_for wire t
closed_value wire t =
    elim (cases_eq t.coef 0) [
      | inl e ↦
          let zero_for : value_for wire t ≡ 0 =
          elim (cases_eq t.signal wire) [
            | inl s ↦ value_same wire t s ∙ e
            | inr s ↦
                value_other wire t s
          ] in
          rw (eq-eqb t.coef 0 e) (sym zero_for)
      | inr ne ↦ rw (ne_eqb t.coef 0 ne) (omega arith)
    ]

pub merged_coefficient : (wire : ℕ) (last : Term) (ts : List Term)
    → coefficient wire (merged last ts) ≡ coefficient wire (last ∷ ts)
merged_coefficient wire last [] = omega (arith, closed_value wire last)
merged_coefficient wire last (t ∷ ts) =
    elim (cases_eq t.signal last.signal) [
      | inl e ↦
          let sum : Term = record { signal = last.signal; coef = (last.coef + t.coef) % P } in
          let rest = merged_coefficient wire sum ts in
          let joined : coefficient wire (sum ∷ ts) ≡ coefficient wire (last ∷ t ∷ ts) =
          elim (cases_eq last.signal wire) [
            | inl s ↦
                omega (
                  arith,
                  value_same wire sum s,
                  value_same wire last s,
                  value_same wire t (e ∙ s),
                  sum_by-cons (value_for wire) sum ts,
                  sum_by-cons (value_for wire) last (t ∷ ts),
                  sum_by-cons (value_for wire) t ts,
                )
            | inr s ↦
                omega (
                  arith,
                  value_other wire sum s,
                  value_other wire last s,
                  value_other wire t (λ z. s (sym e ∙ z)),
                  sum_by-cons (value_for wire) sum ts,
                  sum_by-cons (value_for wire) last (t ∷ ts),
                  sum_by-cons (value_for wire) t ts,
                )
          ] in
          rw (eq-eqb t.signal last.signal e) (rest ∙ joined)
      | inr ne ↦
          let rest = merged_coefficient wire t ts in
          rw (ne_eqb t.signal last.signal ne)
          (omega (
            arith,
            rest,
            sum_by-append (value_for wire) (closed last) (merged t ts),
            closed_value wire last,
            sum_by-cons (value_for wire) last (t ∷ ts),
          ))
    ]

closed_rises : (low : ℕ) (last : Term) (ts : List Term) → low ≤ last.signal
    → RisesFrom (last.signal + 1) ts → RisesFrom low ts → RisesFrom low (closed last ++ ts)
closed_rises low last ts le above from =
    elim (cases_eq last.coef 0) [
      | inl e ↦ rw (eq-eqb last.coef 0 e) from
      | inr ne ↦ rw (ne_eqb last.coef 0 ne) (le, omega (arith, ne), above)
    ]

pub merged_rises : (low : ℕ) (last : Term) (ts : List Term) → low ≤ last.signal
    → ClimbsFrom last.signal ts → RisesFrom low (merged last ts)
merged_rises low last [] le climb =
    elim (cases_eq last.coef 0) [
      | inl e ↦ rw (eq-eqb last.coef 0 e) tt
      | inr ne ↦ rw (ne_eqb last.coef 0 ne) (le, omega (arith, ne), tt)
    ]
merged_rises low last (t ∷ ts) le climb =
    elim (cases_eq t.signal last.signal) [
      | inl e ↦
          let C : ℕ → Type 0 = λ m. ClimbsFrom m ts in
          rw (eq-eqb t.signal last.signal e)
          (merged_rises low (record { signal = last.signal; coef = (last.coef + t.coef) % P })
          ts le (subst C e climb.1))
      | inr ne ↦
          let above : last.signal + 1 ≤ t.signal = omega (arith, ne, climb.0) in
          rw (ne_eqb t.signal last.signal ne)
          (closed_rises low last (merged t ts) le
          (merged_rises (last.signal + 1) t ts above climb.1)
          (merged_rises low t ts (omega (arith, le, above)) climb.1))
    ]

-- a term that is kept only where its coefficient isn't 0
record IsOpen (wires : ℕ) (t : Term) : Type 0 where
  signal : 0 < t.coef → t.signal < wires
  coef : t.coef < P

closed_over : (wires : ℕ) (t : Term) → IsOpen wires t → All (IsTermOver wires) (closed t)
closed_over wires t o =
    elim (cases_eq t.coef 0) [
      | inl e ↦ rw (eq-eqb t.coef 0 e) (All-nil (IsTermOver wires))
      | inr ne ↦
          rw (ne_eqb t.coef 0 ne)
          (All-cons (IsTermOver wires) t []
          (record { signal = o.signal (omega (arith, ne)); coef = o.coef })
          (All-nil (IsTermOver wires)))
    ]

merged_over : (wires : ℕ) (last : Term) (ts : List Term) → IsOpen wires last
    → All (IsTermOver wires) ts → All (IsTermOver wires) (merged last ts)
merged_over wires last [] o over = closed_over wires last o
merged_over wires last (t ∷ ts) o over =
    let first = All-head (IsTermOver wires) t ts over in
    let others = All-tail (IsTermOver wires) t ts over in
    elim (cases_eq t.signal last.signal) [
      | inl e ↦
          let sum : Term = record { signal = last.signal; coef = (last.coef + t.coef) % P } in
          let open_sum : IsOpen wires sum =
          record { signal = λ pos. omega (arith, e, first.signal); coef = omega arith } in
          rw (eq-eqb t.signal last.signal e) (merged_over wires sum ts open_sum others)
      | inr ne ↦
          rw (ne_eqb t.signal last.signal ne)
          (All-append (IsTermOver wires) (closed last) (merged t ts) (closed_over wires last o)
          (merged_over wires t ts (record { signal = λ pos. first.signal; coef = first.coef })
          others))
    ]

-- what the code starts from: a last term that is none
abbrev pub start : Term
start = record { signal = 0; coef = 0 }

value_for_start : (wire : ℕ) → value_for wire start ≡ 0
value_for_start wire =
    elim (cases_eq 0 wire) [ inl e ↦ value_same wire start e | inr ne ↦ value_other wire start ne ]

pub merged_sorted_rises : (sorted : List Term) → IsNonDecreasingBy (λ (t : Term). t.signal) sorted
    → RisesFrom 0 (merged start sorted)
merged_sorted_rises sorted is =
    merged_rises 0 start sorted (omega arith) (climbs 0 sorted (λ d lt. omega arith) is)

pub merged_is_form_of : (wires : ℕ) (terms sorted : List Term) → All (IsTermOver wires) terms
    → IsPermutation terms sorted → IsNonDecreasingBy (λ (t : Term). t.signal) sorted
    → merged start sorted ≡ form_of wires terms
merged_is_form_of wires terms sorted over moved is =
    is_form_of wires (merged start sorted) terms
    (merged_sorted_rises sorted is)
    (merged_over wires start sorted
    (record { signal = λ pos. absurd (omega (arith, pos)); coef = omega arith })
    (All-permutation (IsTermOver wires) terms sorted moved over))
    (λ wire. merged_coefficient wire start sorted
    ∙ omega (
      arith,
      value_for_start wire,
      sum_by-cons (value_for wire) start sorted,
      sum_by-IsPermutation (value_for wire) terms sorted moved,
    ))
