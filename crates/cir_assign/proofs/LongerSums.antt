-- Sums that grow by terms behind their own, and what is taken out of a variable.
use Rattle.std.proofs.Common.{◌≡◌, ℕ, zero, suc, ◌+◌, ◌-◌, ◌*◌, ◌%◌}
use Rattle.std.proofs.Common.{◌<◌, ◌≤◌, List, [], ◌∷◌, ◌++◌, length, get_or}
use Rattle.std.proofs.Common.{drop, map, Some, refl, ap, sym, ◌∙◌, arith}
use Rattle.std.specs.Prelude.{slice_get, slice_set, unwrap_or}
use Rattle.std.proofs.Math.Nat.{mod-add-mod}
use Rattle.gold_field.specs.declared.form.Term.{Term}
use Rattle.gold_field.specs.declared.gold.TheConstants.{P}
use Rattle.gold_field.specs.Rises.{RisesFrom}
use Rattle.cir_lc.specs.Number.{Assignment, value_of, added}
use Rattle.cir_lc.specs.Merge.{total}
use Rattle.cir_lc.proofs.Totals.{total-append, total-cons}
use Rattle.cir_lc.proofs.Values.{added_at, value-total}
use Rattle.cir_values.specs.declared.value.Value.{Value as CodeValue}
use Rattle.cir_values.specs.declared.value.Value.TheVariants as code_value
use Rattle.cir_values.specs.Meant.{meant}
use Rattle.cir_arrays.specs.declared.arrays.Datum.{Datum as CodeDatum}
use Rattle.cir_arrays.specs.declared.arrays.Datum.TheVariants as code_datum
use Rattle.cir_arrays.specs.Shown.{datum_of}
use Rattle.cir_meaning.specs.Arrays.{Datum, single, the_item}
use Rattle.cir_meaning.specs.Values.{Known}
use Rattle.cir_assign.specs.Grows.{IsLinear}

pub value_append : (f g : List Term) → value_of (f ++ g) ≡ added (value_of f) (value_of g)
value_append f g = λ i s. at s i
  where
    at : (s : Assignment) → value_of (f ++ g) s ≡ added (value_of f) (value_of g) s
    at s =
        value-total s (f ++ g) ∙ ap (λ (n : ℕ). n % P) (total-append s.at f g)
        ∙ added_at f g s

-- both constant terms as one
constant_added : (t m : Term) (ts ms : List Term) (k : ℕ) → t.signal ≡ 0 → m.signal ≡ 0
    → k ≡ (t.coef + m.coef) % P
    → added (value_of (record { signal = 0; coef = k } ∷ ts)) (value_of ms)
    ≡ added (value_of (t ∷ ts)) (value_of (m ∷ ms))
constant_added t m ts ms k e f h = λ i s. at s i
  where
    one : Term
    one = record { signal = 0; coef = k }

    term : (s : Assignment) (u : Term) → u.signal ≡ 0 → u.coef * s.at u.signal ≡ u.coef
    term s u z =
        ap (λ (n : ℕ). u.coef * s.at n) z ∙ ap (λ (n : ℕ). u.coef * n) s.one ∙ omega arith

    moved : (s : Assignment) → (total s.at (one ∷ ts) + total s.at ms) % P
        ≡ (total s.at (t ∷ ts) + total s.at (m ∷ ms)) % P
    moved s =
        let before : total s.at (one ∷ ts) + total s.at ms
        ≡ (t.coef + m.coef) % P + (total s.at ts + total s.at ms) =
        omega (arith, total-cons s.at one ts, term s one refl, h) in
        let after : t.coef + m.coef + (total s.at ts + total s.at ms)
        ≡ total s.at (t ∷ ts) + total s.at (m ∷ ms) =
        omega (arith, total-cons s.at t ts, total-cons s.at m ms, term s t e, term s m f) in
        ap (λ (n : ℕ). n % P) before
        ∙ mod-add-mod (t.coef + m.coef) P (total s.at ts + total s.at ms)
        ∙ ap (λ (n : ℕ). n % P) after

    at : (s : Assignment) → added (value_of (one ∷ ts)) (value_of ms) s
        ≡ added (value_of (t ∷ ts)) (value_of (m ∷ ms)) s
    at s = sym (added_at (one ∷ ts) ms s) ∙ moved s ∙ added_at (t ∷ ts) (m ∷ ms) s

pub constant_joined : (terms more : List Term) (old first : Term) (k : ℕ) → 0 < length terms
    → 0 < length more → old ≡ get_or terms 0 old → first ≡ get_or more 0 first
    → old.signal ≡ 0 → first.signal ≡ 0 → k ≡ (old.coef + first.coef) % P
    → added (value_of (slice_set terms 0 record { signal = 0; coef = k }))
    (value_of (drop 1 more))
    ≡ added (value_of terms) (value_of more)
constant_joined [] more old first k a b p q e f h = absurd (omega (arith, a))
constant_joined (t ∷ ts) [] old first k a b p q e f h = absurd (omega (arith, b))
constant_joined (t ∷ ts) (m ∷ ms) old first k a b p q e f h =
    constant_added t m ts ms k (ap (λ (x : Term). x.signal) (sym p) ∙ e)
    (ap (λ (x : Term). x.signal) (sym q) ∙ f)
    (h ∙ ap (λ (x : Term). (x.coef + first.coef) % P) p
    ∙ ap (λ (x : Term). (t.coef + x.coef) % P) q)

-- terms behind the last one
pub behind_last : (low : ℕ) (terms more : List Term) (d first : Term) → 0 < length terms
    → 0 < length more → first ≡ get_or more 0 first
    → (get_or terms (length terms - 1) d).signal < first.signal → RisesFrom low terms
    → RisesFrom 0 more → RisesFrom low (terms ++ more)
behind_last low [] more d first a b q l h r = absurd (omega (arith, a))
behind_last low (t ∷ ts) [] d first a b q l h r = absurd (omega (arith, b))
behind_last low (t ∷ []) (m ∷ ms) d first a b q l h r =
    (h.0, h.1, (omega (arith, l, ap (λ (x : Term). x.signal) q), r.1, r.2))
behind_last low (t ∷ (u ∷ us)) (m ∷ ms) d first a b q l h r =
    let more : length (t ∷ (u ∷ us)) - 1 ≡ suc (length (u ∷ us) - 1) = omega arith in
    let same : get_or (t ∷ (u ∷ us)) (length (t ∷ (u ∷ us)) - 1) d
    ≡ get_or (u ∷ us) (length (u ∷ us) - 1) d =
    ap (λ (j : ℕ). get_or (t ∷ (u ∷ us)) j d) more in (
      h.0,
      h.1,
      behind_last (t.signal + 1) (u ∷ us) (m ∷ ms) d first (omega arith) b q
          (omega (arith, l, ap (λ (x : Term). x.signal) same)) h.2 r,
    )

pub linear_at : (vs : List Datum) (n : ℕ) (d : CodeDatum) (v : CodeValue) (f : List Term)
    → d ≡ code_datum.Number v → v ≡ code_value.Linear f
    → Some (datum_of d) ≡ slice_get vs n
    → IsLinear (unwrap_or (slice_get vs n) (single (Known 0)))
linear_at vs n d v f e g there = (
  value_of f,
  ap (λ o. unwrap_or o (single (Known 0))) (sym there) ∙ ap datum_of e
      ∙ ap (λ (v : CodeValue). single (meant v)) g,
)

pub none_at : (vs : List CodeDatum) (n : ℕ) → length vs ≤ n
    → Known 0 ≡ the_item (unwrap_or (slice_get (map datum_of vs) n) (single (Known 0)))
none_at [] n h = refl
none_at (v ∷ vs) zero h = absurd (omega (arith, h))
none_at (v ∷ vs) (suc n) h = none_at vs n (omega (arith, h))

pub set_again : (vs : List CodeDatum) (n : ℕ) (e : CodeDatum) (d : Datum)
    → slice_set (map datum_of (slice_set vs n e)) n d ≡ slice_set (map datum_of vs) n d
set_again [] n e d = refl
set_again (v ∷ vs) zero e d = refl
set_again (v ∷ vs) (suc n) e d = ap (λ (l : List Datum). datum_of v ∷ l) (set_again vs n e d)
