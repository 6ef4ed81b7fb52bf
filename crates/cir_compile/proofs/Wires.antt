-- The wires that are kept, and their labels.
use Rattle.std.proofs.Common.{◌≡◌, ℕ, zero, suc, ◌<◌, ◌≤◌, Bool, true, false, cond, List, [], ◌∷◌}
use Rattle.std.proofs.Common.{◌++◌, length, get_or, slice_index, refl, ap, sym, ◌∙◌, arith, inl}
use Rattle.std.proofs.Common.{inr, length-append}
use Rattle.std.proofs.lemmas.Bool.{cases_lt}
use Rattle.std.proofs.lemmas.List.{get_or_append_left, get_or-append-add}
use Rattle.cir_simplify.specs.Wires.{kept_below, wire_of}

-- one signal more
at_most : (n : ℕ) (b : Bool) → length (cond b (n ∷ []) []) ≤ 1
at_most n true = omega arith
at_most n false = omega arith

one : (n : ℕ) (b : Bool) → b ≡ true → cond b (n ∷ []) [] ≡ n ∷ []
one n b e = ap (λ (v : Bool). cond v (n ∷ []) []) e

pub few_kept : (keeps : ℕ → Bool) (n : ℕ) → length (kept_below keeps n) ≤ n
few_kept keeps zero = omega arith
few_kept keeps (suc n) =
    omega (
      arith,
      few_kept keeps n,
      at_most n (keeps n),
      length-append (kept_below keeps n) (cond (keeps n) (n ∷ []) []),
    )

-- all kept
pub all_kept : (keeps : ℕ → Bool) (n : ℕ) → ((x : ℕ) → x < n → keeps x ≡ true)
    → length (kept_below keeps n) ≡ n
all_kept keeps zero h = refl
all_kept keeps (suc n) h =
    omega (
      arith,
      all_kept keeps n (λ x l. h x (omega arith)),
      length-append (kept_below keeps n) (cond (keeps n) (n ∷ []) []),
      ap (λ (v : List ℕ). length v) (one n (keeps n) (h n (omega arith))),
    )

-- the places below n are those of the list
pub place_below : (keeps : ℕ → Bool) (n x : ℕ) → x < n → keeps x ≡ true
    → wire_of keeps x < length (kept_below keeps n)
place_below keeps zero x l e = absurd (omega arith)
place_below keeps (suc n) x l e =
    elim (cases_lt x n) [
      | inl p ↦
          omega (
            arith,
            place_below keeps n x p e,
            length-append (kept_below keeps n) (cond (keeps n) (n ∷ []) []),
          )
      | inr p ↦
          let same : x ≡ n = omega (arith, p) in
          omega (
            arith,
            ap (wire_of keeps) same,
            length-append (kept_below keeps n) (cond (keeps n) (n ∷ []) []),
            ap (λ (v : List ℕ). length v) (one n (keeps n) (sym (ap keeps same) ∙ e)),
          )
    ]

-- the label of a kept signal's wire is its number
pub label_of : (keeps : ℕ → Bool) (n x : ℕ) → x < n → keeps x ≡ true
    → slice_index (kept_below keeps n) (wire_of keeps x) ≡ x
label_of keeps zero x l e = absurd (omega arith)
label_of keeps (suc n) x l e =
    elim (cases_lt x n) [
      | inl p ↦
          get_or_append_left (kept_below keeps n) (cond (keeps n) (n ∷ []) []) 0 (wire_of keeps x)
          (place_below keeps n x p e)
          ∙ label_of keeps n x p e
      | inr p ↦
          let same : x ≡ n = omega (arith, p) in
          let here : slice_index (kept_below keeps n ++ cond (keeps n) (n ∷ []) [])
          (wire_of keeps n) ≡ n =
          last (kept_below keeps n) (cond (keeps n) (n ∷ []) []) (wire_of keeps n) n refl
          (one n (keeps n) (sym (ap keeps same) ∙ e)) in
          ap (λ (y : ℕ). slice_index (kept_below keeps n ++ cond (keeps n) (n ∷ []) [])
          (wire_of keeps y)) same ∙ here ∙ sym same
    ]
  where
    last : (xs ys : List ℕ) (i n : ℕ) → length xs ≡ i → ys ≡ n ∷ [] → slice_index (xs ++ ys) i ≡ n
    last xs ys i n e f =
        ap (λ (j : ℕ). slice_index (xs ++ ys) j) (omega (arith, e))
        ∙ get_or-append-add xs ys 0 0 ∙ ap (λ (v : List ℕ). get_or v 0 0) f

-- each wire is that of a kept signal
pub record Labels (keeps : ℕ → Bool) (n wire : ℕ) : Type 0 where
  pub signal : ℕ
  pub below : signal < n
  pub kept : keeps signal ≡ true
  pub place : wire_of keeps signal ≡ wire

pub labelled : (keeps : ℕ → Bool) (n wire : ℕ) → wire < length (kept_below keeps n)
    → Labels keeps n wire
labelled keeps zero wire l = absurd (omega arith)
labelled keeps (suc n) wire l =
    elim (cases_lt wire (length (kept_below keeps n))) [
      | inl p ↦
          let found : Labels keeps n wire = labelled keeps n wire p in
          record {
            signal = found.signal;
            below = omega
                (arith, found.below);
            kept = found.kept;
            place = found.place;
          }
      | inr p ↦ at_end (keeps n) refl p
    ]
  where
    at_end : (b : Bool) → keeps n ≡ b → length (kept_below keeps n) ≤ wire
        → Labels keeps (suc n) wire
    at_end true e p = record {
      signal = n;
      below = omega arith;
      kept = e;
      place =
          omega (
            arith,
            p,
            l,
            length-append (kept_below keeps n) (cond (keeps n) (n ∷ []) []),
            ap (λ (v : List ℕ). length v) (one n (keeps n) e),
          );
    }
    at_end false e p =
        let none : cond (keeps n) (n ∷ []) [] ≡ [] = ap (λ (v : Bool). cond v (n ∷ []) []) e in
        absurd
        (omega (
          arith,
          p,
          l,
          length-append (kept_below keeps n) (cond (keeps n) (n ∷ []) []),
          ap (λ (v : List ℕ). length v) none,
        ))
