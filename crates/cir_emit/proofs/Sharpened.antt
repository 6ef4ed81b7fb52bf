-- Sharper indices mean some of the places that others mean.
use Rattle.std.proofs.Common.{◌≡◌, ℕ, ◌+◌, ◌*◌, Bool, true, false, cond, List, [], ◌∷◌, map}
use Rattle.std.proofs.Common.{flat_map, Option, Some, None, Ok, refl, sym, subst, arith}
use Rattle.std.specs.Prelude.{nat_lt, not, filter, is_some, ◌||◌}
use Rattle.std.specs.List.{AllByRecursion}
use Rattle.std.proofs.lemmas.Bool.{and_parts, and_from, ltb-true}
use Rattle.cir_ast.specs.declared.refusal.Kind.TheVariants.{OutOfBounds, ShapeDiffers}
use Rattle.cir_meaning.specs.Tried.{Where, Tried, next, needed, found}
use Rattle.cir_meaning.specs.Places.{elements, left_of, is_inside, all_known, places_of}
use Rattle.cir_meaning.specs.Places.{numbers_from}
use Rattle.cir_meaning.specs.Arrays.{Want, Whole, Reach, fits, reach, item_at, is_known}
use Rattle.cir_meaning.specs.Values.{Value}
use Rattle.cir_meaning.specs.Costs.{Cell, Element, places_in}
use Rattle.cir_meaning.proofs.Rows.{all_append}
use Rattle.cir_emit.proofs.Lists.{all_mapped, all_through, all_flat, all_number}
use Rattle.cir_emit.proofs.Reached.{Sharper}

all_rows : {A B : Type 0} (P : A → Type 0) (Q : B → Type 0) (f : A → List B) (xs : List A)
    → ((a : A) → P a → AllByRecursion Q (f a)) → AllByRecursion P xs
    → AllByRecursion Q (flat_map f xs)
all_rows P Q f [] g h = tt
all_rows P Q f (x ∷ xs) g h =
    all_append Q (f x) (flat_map f xs) (g x h.0) (all_rows P Q f xs g h.1)

pub inside_sharper : (dims : List ℕ) (os ks : List (Option ℕ)) → Sharper os ks
    → is_inside dims ks ≡ true → is_inside dims os ≡ true
inside_sharper dims [] [] s i = refl
inside_sharper dims [] (k ∷ ks) s i = absurd s
inside_sharper dims (o ∷ os) [] s i = absurd s
inside_sharper [] (o ∷ os) (k ∷ ks) s i = refl
inside_sharper (d ∷ ds) (None ∷ os) (None ∷ ks) s i = inside_sharper ds os ks s.1 i
inside_sharper (d ∷ ds) (None ∷ os) (Some j ∷ ks) s i =
    inside_sharper ds os ks s.1 (and_parts (nat_lt j d) (is_inside ds ks) i).1
inside_sharper (d ∷ ds) (Some n ∷ os) (k ∷ ks) s i =
    let parts : (nat_lt n d ≡ true) × (is_inside ds ks ≡ true) =
    and_parts (nat_lt n d) (is_inside ds ks)
    (subst (λ x. is_inside (d ∷ ds) (x ∷ ks) ≡ true) (s.0 n refl) i) in
    and_from (nat_lt n d) (is_inside ds os) parts.0 (inside_sharper ds os ks s.1 parts.1)

pub places_sharper : (P : ℕ → Type 0) (dims : List ℕ) (os ks : List (Option ℕ)) → Sharper os ks
    → is_inside dims ks ≡ true → AllByRecursion P (places_of dims os)
    → AllByRecursion P (places_of dims ks)
places_sharper P dims [] [] s i h = h
places_sharper P dims [] (k ∷ ks) s i h = absurd s
places_sharper P dims (o ∷ os) [] s i h = absurd s
places_sharper P [] (o ∷ os) (k ∷ ks) s i h = tt
places_sharper P (d ∷ ds) (None ∷ os) (None ∷ ks) s i h =
    let m : ℕ = elements ds in
    let row : (List (Option ℕ) → ℕ → List ℕ) = λ xs j. map (λ p. j * m + p) (places_of ds xs) in
    all_rows (λ j. AllByRecursion P (row os j)) P (row ks) (numbers_from 0 d)
    (λ j r. all_through P (λ p. j * m + p) (places_of ds ks)
    (places_sharper (λ p. P (j * m + p)) ds os ks s.1 i
    (all_mapped P (λ p. j * m + p) (places_of ds os) r)))
    (all_flat P (row os) (numbers_from 0 d) h)
places_sharper P (d ∷ ds) (None ∷ os) (Some j ∷ ks) s i h =
    let m : ℕ = elements ds in
    let parts : (nat_lt j d ≡ true) × (is_inside ds ks ≡ true) =
    and_parts (nat_lt j d) (is_inside ds ks) i in
    let row : (ℕ → List ℕ) = λ j. map (λ p. j * m + p) (places_of ds os) in
    let z : 0 + j ≡ j = omega arith in
    let here : AllByRecursion P (row j) =
    subst (λ x. AllByRecursion P (row x)) z
    (all_number (λ i. AllByRecursion P (row i)) 0 d j (ltb-true j d parts.0)
    (all_flat P row (numbers_from 0 d) h)) in
    all_through P (λ p. j * m + p) (places_of ds ks)
    (places_sharper (λ p. P (j * m + p)) ds os ks s.1 parts.1
    (all_mapped P (λ p. j * m + p) (places_of ds os) here))
places_sharper P (d ∷ ds) (Some n ∷ os) (k ∷ ks) s i h =
    let m : ℕ = elements ds in
    let parts : (nat_lt n d ≡ true) × (is_inside ds ks ≡ true) =
    and_parts (nat_lt n d) (is_inside ds ks)
    (subst (λ x. is_inside (d ∷ ds) (x ∷ ks) ≡ true) (s.0 n refl) i) in
    subst (λ x. AllByRecursion P (places_of (d ∷ ds) (x ∷ ks))) (sym (s.0 n refl))
    (all_through P (λ p. n * m + p) (places_of ds ks)
    (places_sharper (λ p. P (n * m + p)) ds os ks s.1 parts.1
    (all_mapped P (λ p. n * m + p) (places_of ds os) h)))

-- what is reached in any way is reached where an array will do
pub reach_whole : (w : Where) (shaded : Bool) (want : Want) (dims : List ℕ)
    (os : List (Option ℕ)) (r : Reach) → reach w shaded want dims os ≡ Ok r
    → is_inside dims os ≡ true → places_in (reach w true Whole dims os) ≡ places_of dims os
reach_whole w shaded want dims os r is inside =
    at (left_of dims os) (is_inside dims os) inside is
  where
    reached : Option (List ℕ) → Bool → Bool → Want → Tried Reach
    reached o in_it b wanted =
        next (found w ShapeDiffers o) (λ left. needed (in_it || b) w OutOfBounds
        (needed (fits wanted left) w ShapeDiffers (Ok (cond in_it record {
          left = left;
          is_sure = is_some (all_known os);
          places = places_of dims os;
        } record { left = left; is_sure = false; places = [] }))))

    at : (o : Option (List ℕ)) (b : Bool) → b ≡ true → reached o b shaded want ≡ Ok r
        → places_in (reached o b true Whole) ≡ places_of dims os
    at None b i e = cc
    at (Some left) true i e = refl
    at (Some left) false i e = cc

-- of a variable those elements are counted that aren't known
pub unknown_all : (C : Cell → Type 0) (n : ℕ) (items : List Value) (places : List ℕ)
    → AllByRecursion C (map (λ p. Element n p)
    (filter (λ p. not (is_known (item_at items p))) places))
    → AllByRecursion (λ p. is_known (item_at items p) ≡ false → C (Element n p)) places
unknown_all C n items [] h = tt
unknown_all C n items (p ∷ places) h =
    at (is_known (item_at items p)) refl h (unknown_all C n items places)
  where
    rest : List ℕ
    rest = filter (λ p. not (is_known (item_at items p))) places

    Rest : Type 0
    Rest = AllByRecursion (λ p. is_known (item_at items p) ≡ false → C (Element n p)) places

    at : (b : Bool) → is_known (item_at items p) ≡ b
        → AllByRecursion C (map (λ p. Element n p) (cond (not b) (p ∷ rest) rest))
        → (AllByRecursion C (map (λ p. Element n p) rest) → Rest)
        → (is_known (item_at items p) ≡ false → C (Element n p)) × Rest
    at true e g go = ((λ no. cc), go g)
    at false e g go = ((λ no. g.0), go g.1)
