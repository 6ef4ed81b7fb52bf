-- Where keys stand last, in a list with one item more or some fewer.
use Rattle.std.proofs.Common.{◌≡◌, ◌∙◌, ℕ, zero, suc, ◌+◌, ◌≤◌, ◌<◌, Bool, true, false, List, []}
use Rattle.std.proofs.Common.{◌∷◌, ◌++◌, length, take, drop, ap, refl, sym, subst, cond}
use Rattle.std.proofs.Common.{arith, inl, inr, ⊎_elim}
use Rattle.std.proofs.Common.{length-append}
use Rattle.std.specs.Prelude.{◌⊎◌, Some, slice_get}
use Rattle.std.specs.BTreeMap.{Updates, get}
use Rattle.std.specs.Ordering.{is_eq}
use Rattle.std.specs.declared.cmp.Ordering.{Ordering}
use Rattle.std.proofs.lemmas.List.{take-append-drop}
use Rattle.std.proofs.lemmas.Option.{slice_get_within}
use Rattle.wit_sourced.specs.declared.ends.Ends.{Ends}
use Rattle.wit_sourced.specs.declared.ends.TheConstants.{FEW}
use Rattle.wit_sourced.specs.Ends.{AreEnds, end_of, or_few}

more_front : {A : Type 0} (xs ys : List A) (i : ℕ) (x : A) → slice_get xs i ≡ Some x
    → slice_get (xs ++ ys) i ≡ Some x
more_front [] ys i x at = cc
more_front (z ∷ xs) ys zero x at = at
more_front (z ∷ xs) ys (suc i) x at = more_front xs ys i x at

last_or : {A : Type 0} (xs : List A) (y : A) (i : ℕ) (x : A) → slice_get (xs ++ y ∷ []) i ≡ Some x
    → (slice_get xs i ≡ Some x) ⊎ (x ≡ y)
last_or [] y zero x at = inr (cc)
last_or [] y (suc i) x at = cc
last_or (z ∷ xs) y zero x at = inl at
last_or (z ∷ xs) y (suc i) x at = last_or xs y i x at

module _ {K : Type 0} (cmp : K → K → Ordering) where
  -- the front of the list
  pub fewer : (ends : Ends K) (keys more : List K) → AreEnds cmp ends (keys ++ more)
      → AreEnds cmp ends keys
  fewer ends keys more are = record {
    few = are.few;
    before = λ q x i past at. are.before q x i past (more_front keys more i x at);
  }

  pub cut : (ends : Ends K) (keys : List K) (n : ℕ) → AreEnds cmp ends keys
      → AreEnds cmp ends (take n keys)
  cut ends keys n are =
      fewer ends (take n keys) (drop n keys)
      (subst (AreEnds cmp ends) (sym (take-append-drop n keys)) are)

  -- one of the first few
  pub first : (ends : Ends K) (keys : List K) (key : K) → AreEnds cmp ends keys
      → length keys < FEW → AreEnds cmp ends (keys ++ key ∷ [])
  first ends keys key are small = record {
    few = are.few;
    before = λ q x i past at.
        let within = slice_get_within (keys ++ key ∷ []) i x at in
        let size = length-append keys (key ∷ []) in
        let few = are.few q in
        absurd (omega (arith, within, size, few, past, small));
  }

  -- another one
  pub another : (ends more : Ends K) (keys : List K) (key : K) (end : ℕ) → AreEnds cmp ends keys
      → FEW ≤ length keys → end ≡ length keys + 1
      → Updates cmp ends.places more.places key (Some end)
      → AreEnds cmp more (keys ++ key ∷ [])
  another ends more keys key end are many is updates = record {
    few = λ q. few q (is_eq (cmp key q)) refl;
    before = λ q x i past at. before q x i past at (is_eq (cmp key q)) refl;
  }
    where
      here : (q : K) (b : Bool) → is_eq (cmp key q) ≡ b
          → end_of cmp more q ≡ or_few (cond b (Some end) (get cmp ends.places q))
      here q b e = ap or_few (updates.0 q)
          ∙ ap (λ c. or_few (cond c (Some end) (get cmp ends.places q))) e

      few : (q : K) (b : Bool) → is_eq (cmp key q) ≡ b → FEW ≤ end_of cmp more q
      few q true e = let new = here q true e in omega (arith, new, is, many)
      few q false e =
          let old = here q false e in
          let before = are.few q in
          omega (arith, old, before)

      before : (q x : K) (i : ℕ) → end_of cmp more q ≤ i → slice_get (keys ++ key ∷ []) i ≡ Some x
          → (b : Bool) → is_eq (cmp key q) ≡ b → is_eq (cmp x q) ≡ false
      before q x i past at true e =
          let within = slice_get_within (keys ++ key ∷ []) i x at in
          let size = length-append keys (key ∷ []) in
          let new = here q true e in
          absurd (omega (arith, within, size, new, past, is))
      before q x i past at false e =
          let old = here q false e in
          ⊎_elim (λ s. are.before q x i (omega (arith, old, past)) s)
          (λ s. ap (λ y. is_eq (cmp y q)) s ∙ e) (last_or keys key i x at)
