-- The linear combination of terms has their sum at every assignment.
use Rattle.std.proofs.Common.{◌≡◌, ℕ, zero, suc, ◌+◌, ◌*◌, ◌%◌, ◌<◌, ◌≤◌, List, [], ◌∷◌, sum_by}
use Rattle.std.proofs.Common.{refl, sym, ap, ◌∙◌, inl, inr, arith}
use Rattle.std.proofs.lemmas.Bool.{cases_eq}
use Rattle.std.proofs.lemmas.Nat.{mul-mod_first}
use Rattle.std.proofs.lemmas.List.Elements.{All-head, All-tail}
use Rattle.std.proofs.lemmas.List.Sums.{sum_by-cons}
use Rattle.gold_field.specs.declared.form.Term.{Term}
use Rattle.gold_field.specs.declared.gold.TheConstants.{P}
use Rattle.gold_field.specs.Form.{value_at, SignalsBelow}
use Rattle.iden_files.specs.Meaning.{coefficient, form_from, form_of}
use Rattle.iden_files.proofs.FormLaws.{value_for, value_same, value_other, none_at, some_at}

module _ (s : ℕ → ℕ) where
  -- the sum of n wires' values, this one first
  by_wire : ℕ → ℕ → List Term → ℕ
  by_wire low zero terms = 0
  by_wire low (suc n) terms = sum_by (value_for low) terms * s low + by_wire (low + 1) n terms

  of_one : ℕ → ℕ → Term → ℕ
  of_one low zero t = 0
  of_one low (suc n) t = value_for low t * s low + of_one (low + 1) n t

  by_wire_cons : (n low : ℕ) (t : Term) (ts : List Term)
      → by_wire low n (t ∷ ts) ≡ of_one low n t + by_wire low n ts
  unfolding by_wire of_one
  by_wire_cons zero low t ts = refl
  by_wire_cons (suc n) low t ts =
      let parts : sum_by (value_for low) (t ∷ ts) * s low
      ≡ value_for low t * s low + sum_by (value_for low) ts * s low =
      ap (λ m. m * s low) (sum_by-cons (value_for low) t ts) ∙ omega arith in
      omega (arith, parts, by_wire_cons n (low + 1) t ts)

  of_one_out : (n low : ℕ) (t : Term) → t.signal < low → of_one low n t ≡ 0
  unfolding of_one
  of_one_out zero low t out = refl
  of_one_out (suc n) low t out =
      let none : value_for low t * s low ≡ 0 =
      ap (λ m. m * s low) (value_other low t (λ z. absurd (omega (arith, z, out))))
      ∙ omega arith in
      omega (arith, none, of_one_out n (low + 1) t (omega (arith, out)))

  of_one_in : (n low : ℕ) (t : Term) → low ≤ t.signal → t.signal < low + n
      → of_one low n t ≡ t.coef * s t.signal
  unfolding of_one
  of_one_in zero low t from below = absurd (omega (arith, from, below))
  of_one_in (suc n) low t from below =
      elim (cases_eq t.signal low) [
        | inl e ↦
            let here : value_for low t * s low ≡ t.coef * s t.signal =
            ap (λ m. m * s low) (value_same low t e) ∙ ap (λ i. t.coef * s i) (sym e) in
            omega (arith, here, of_one_out n (low + 1) t (omega (arith, e)))
        | inr ne ↦
            let none : value_for low t * s low ≡ 0 =
            ap (λ m. m * s low) (value_other low t ne) ∙ omega arith in
            omega (
              arith,
              none,
              of_one_in n (low + 1) t (omega (arith, from, ne)) (omega (arith, below)),
            )
      ]

  by_term : (wires : ℕ) (terms : List Term) → SignalsBelow wires terms
      → by_wire 0 wires terms ≡ sum_by (λ t. t.coef * s t.signal) terms
  unfolding by_wire
  by_term wires [] below = by_nothing wires 0
    where
      by_nothing : (n low : ℕ) → by_wire low n [] ≡ 0
      by_nothing zero low = refl
      by_nothing (suc n) low = omega (arith, by_nothing n (low + 1))
  by_term wires (t ∷ ts) below =
      let first = All-head (λ (u : Term). u.signal < wires) t ts below in
      let others = by_term wires ts (All-tail (λ (u : Term). u.signal < wires) t ts below) in
      omega (
        arith,
        by_wire_cons wires 0 t ts,
        of_one_in wires 0 t (omega arith) (omega (arith, first)),
        others,
        sum_by-cons (λ (u : Term). u.coef * s u.signal) t ts,
      )

  form_value : (n low : ℕ) (terms : List Term) → value_at s (form_from low n terms)
      ≡ by_wire low n terms % P
  unfolding by_wire
  form_value zero low terms = refl
  form_value (suc n) low terms =
      let reduced = mul-mod_first (sum_by (value_for low) terms) (s low) P in
      let rest = form_value n (low + 1) terms in
      elim (cases_eq (coefficient low terms) 0) [
        | inl e ↦
            let none : coefficient low terms * s low ≡ 0 = ap (λ m. m * s low) e ∙ omega arith in
            ap (value_at s) (none_at n low terms e) ∙ rest ∙ omega (arith, reduced, none)
        | inr ne ↦
            let one : Term = record { signal = low; coef = coefficient low terms } in
            ap (value_at s) (some_at n low (coefficient low terms) terms refl (omega (arith, ne)))
            ∙ omega (
              arith,
              sum_by-cons (λ (u : Term). u.coef * s u.signal) one (form_from (low + 1) n terms),
              reduced,
              rest,
            )
      ]

  pub form_of_value : (wires : ℕ) (terms : List Term) → SignalsBelow wires terms
      → value_at s (form_of wires terms) ≡ value_at s terms
  unfolding form_of
  form_of_value wires terms below =
      form_value wires 0 terms ∙ ap (λ n. n % P) (by_term wires terms below)
