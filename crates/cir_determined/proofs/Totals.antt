-- Sums of terms at two assignments that agree on some of the wires.
use Rattle.std.proofs.Common.{◌≡◌, ℕ, ◌+◌, ◌*◌, ◌<◌, ◌==◌, Bool, true, false, cond, ◌⊎◌, List, []}
use Rattle.std.proofs.Common.{◌∷◌, All, get_or, arith, ap, sym, ◌∙◌, inl, inr}
use Rattle.std.proofs.lemmas.Bool.{cases_Bool, cases_order, eqb-true, eqb-false, eq-eqb, or_cases}
use Rattle.std.proofs.lemmas.Bool.{or_parts}
use Rattle.std.proofs.lemmas.List.Elements.{All-nil, All-cons, All-head, All-tail}
use Rattle.gold_field.specs.declared.form.Term.{Term}
use Rattle.gold_field.specs.Rises.{RisesFrom}
use Rattle.cir_lc.specs.Coefficient.{one_at}
use Rattle.cir_lc.specs.Merge.{total}
use Rattle.cir_lc.proofs.Totals.{total-nil, total-cons}
use Rattle.cir_lc.proofs.Known.{coef_of, one_here, none_apart}
use Rattle.cir_determined.specs.Rules.{is_named}

abbrev pub Agrees : (s t : ℕ → ℕ) → Term → Type 0
Agrees s t u = s u.signal ≡ t u.signal

-- sums at assignments that agree on the wires that are named
pub same_total : (s t : ℕ → ℕ) (us : List Term) → All (λ u. s u.signal ≡ t u.signal) us
    → total s us ≡ total t us
same_total s t [] h = total-nil s ∙ sym (total-nil t)
same_total s t (u ∷ us) h =
    let first : s u.signal ≡ t u.signal = All-head (Agrees s t) u us h in
    omega (
      arith,
      total-cons s u us,
      total-cons t u us,
      ap (λ (n : ℕ). u.coef * n) first,
      same_total s t us (All-tail (Agrees s t) u us h),
    )

-- 0 at the wire, and elsewhere what stands there
abbrev pub without : (wire : ℕ) → (ℕ → ℕ) → ℕ → ℕ
without w s k = cond (k == w) 0 (s k)

-- what a wire adds to a sum, and what the others do
part_here : (w k c : ℕ) (s : ℕ → ℕ) → k ≡ w → c * s k ≡ c * one_at w k * s w + c * without w s k
part_here w k c s e =
    omega (
      arith,
      ap (λ (n : ℕ). c * n) (ap s e),
      ap (λ (n : ℕ). c * n * s w) (one_here w k (sym e)),
      ap (λ (b : Bool). c * cond b 0 (s k)) (eq-eqb k w e),
    )

apart : (w k : ℕ) → (k ≡ w → ⊥) → (w < k) ⊎ (k < w)
apart w k h =
    elim (cases_order k w) [
      | inl e ↦ absurd (h e)
      | inr q ↦ elim q as (λ _. (w < k) ⊎ (k < w)) [ inl l ↦ inr l | inr l ↦ inl l ]
    ]

part_apart : (w k c : ℕ) (s : ℕ → ℕ) → (k == w) ≡ false
    → c * s k ≡ c * one_at w k * s w + c * without w s k
part_apart w k c s e =
    omega (
      arith,
      ap (λ (n : ℕ). c * n * s w) (none_apart w k (apart w k (eqb-false k w e))),
      ap (λ (b : Bool). c * cond b 0 (s k)) e,
    )

part : (w k c : ℕ) (s : ℕ → ℕ) → c * s k ≡ c * one_at w k * s w + c * without w s k
part w k c s =
    elim (cases_Bool (k == w)) [
      | inl e ↦ part_here w k c s (eqb-true k w e)
      | inr e ↦ part_apart w k c s e
    ]

-- a sum is the wire's coefficient times its number, and the other terms
pub total_split : (w : ℕ) (s : ℕ → ℕ) (us : List Term)
    → total s us ≡ coef_of w us * s w + total (without w s) us
total_split w s [] = omega (
  arith,
  total-nil s,
  total-nil (without w s),
  ap (λ (n : ℕ). n * s w) (total-nil (one_at w)),
)
total_split w s (u ∷ us) =
    omega (
      arith,
      total-cons s u us,
      total-cons (without w s) u us,
      ap (λ (n : ℕ). n * s w) (total-cons (one_at w) u us),
      part w u.signal u.coef s,
      total_split w s us,
    )

-- a wire that is named has a coefficient
pub named_coef : (w low : ℕ) (us : List Term) → RisesFrom low us → is_named w us ≡ true
    → 0 < coef_of w us
named_coef w low [] h e = cc
named_coef w low (u ∷ us) h e =
    elim (or_cases (u.signal == w) (is_named w us) e) [
      | inl a ↦
          omega (
            arith,
            total-cons (one_at w) u us,
            h.1,
            ap (λ (n : ℕ). u.coef * n) (one_here w u.signal (sym (eqb-true u.signal w a))),
          )
      | inr b ↦
          omega (
            arith,
            total-cons (one_at w) u us,
            named_coef w (u.signal + 1) us h.2 b,
          )
    ]

-- assignments that agree on every wire of the terms but one
pub agree_without : (w : ℕ) (s t : ℕ → ℕ) (us : List Term)
    → All (λ u. (u.signal ≡ w) ⊎ (s u.signal ≡ t u.signal)) us
    → All (Agrees (without w s) (without w t)) us
agree_without w s t us h = λ k d l. one (us_at k d) (h k d l)
  where
    us_at : ℕ → Term → Term
    us_at k d = get_or us k d

    one : (u : Term) → (u.signal ≡ w) ⊎ (s u.signal ≡ t u.signal)
        → Agrees (without w s) (without w t) u
    one u (inl e) =
        ap (λ (b : Bool). cond b 0 (s u.signal)) (eq-eqb u.signal w e)
        ∙ sym (ap (λ (b : Bool). cond b 0 (t u.signal)) (eq-eqb u.signal w e))
    one u (inr e) = ap (λ (n : ℕ). cond (u.signal == w) 0 n) e

-- and where it isn't named, on all
pub agree_unnamed : (w : ℕ) (s t : ℕ → ℕ) (us : List Term) → is_named w us ≡ false
    → All (λ u. (u.signal ≡ w) ⊎ (s u.signal ≡ t u.signal)) us → All (Agrees s t) us
agree_unnamed w s t [] e h = All-nil (Agrees s t)
agree_unnamed w s t (u ∷ us) e h =
    let both : ((u.signal == w) ≡ false) × (is_named w us ≡ false) =
    or_parts (u.signal == w) (is_named w us) e in
    All-cons (Agrees s t) u us (first both.0 (All-head (Either w s t) u us h))
    (agree_unnamed w s t us both.1 (All-tail (Either w s t) u us h))
  where
    Either : ℕ → (ℕ → ℕ) → (ℕ → ℕ) → Term → Type 0
    Either w s t u = (u.signal ≡ w) ⊎ (s u.signal ≡ t u.signal)

    first : (u.signal == w) ≡ false → (u.signal ≡ w) ⊎ (s u.signal ≡ t u.signal) → Agrees s t u
    first a (inl b) = absurd (eqb-false u.signal w a b)
    first a (inr b) = b
