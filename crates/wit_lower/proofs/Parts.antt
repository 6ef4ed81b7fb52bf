-- A part of an array that is read comes to the free slots.
use Rattle.std.proofs.Common.{◌≡◌, ℕ, zero, suc, ◌+◌, ◌*◌, ◌<◌, ◌≤◌, Bool, true, false, cond, List}
use Rattle.std.proofs.Common.{[], ◌∷◌, ◌++◌, length, map, drop, Option, Some, Result, Ok, Err, refl}
use Rattle.std.proofs.Common.{sym, ap, ap₂, subst, ◌∙◌, arith, length-append, suc-mul, inl, inr}
use Rattle.std.proofs.Common.{◌⊎◌}
use Rattle.std.specs.Prelude.{slice_index, unwrap_or, max, fold}
use Rattle.std.proofs.lemmas.Bool.{ltb-false, ltb-true, lt-ltb}
use Rattle.gold_field.specs.declared.gold.TheConstants.{P}
use Rattle.wit_code.specs.declared.code.Op.{Op}
use Rattle.wit_code.specs.Table.{State}
use Rattle.cir_meaning.specs.Tried.{next}
use Rattle.cir_meaning.specs.Places.{elements, is_inside, numbers_from}
use Rattle.cir_meaning.specs.Limits.{is_too_large}
use Rattle.cir_meaning.specs.Arrays.{Shaped, made}
use Rattle.cir_meaning.specs.RunValues.{Ran, Numbers, gives, bounded, index_out, read_stored}
use Rattle.cir_meaning.specs.RunValues.{read_wired, option_at, all_there}
use Rattle.wit_lower.specs.Homes.{Home, slots_of, offset, row}
use Rattle.wit_lower.specs.Pieces.{moves, loads, offset_code, read_code}
use Rattle.wit_lower.proofs.Does.{Setting, Does, does_next, does_same, gives as there, misses}
use Rattle.wit_lower.proofs.Does.{HasAt, has_front, has_back}
use Rattle.wit_lower.proofs.Frames.{Below, below_then, copied_below, row_got, row_part, row_length}
use Rattle.wit_lower.proofs.Frames.{row_below}
use Rattle.wit_lower.proofs.Places.{checked, checked_is, checked_fits, left_is, places_are}
use Rattle.wit_lower.proofs.Spots.{Spot, here, body_at, IsWide, at_state}
use Rattle.wit_lower.proofs.Pieces.{moves_go, loads_go, offset_does, Offset}
use Rattle.wit_lower.proofs.Shows.{Carries, Lies, all_there_is}

-- the numbers of a value stand from slot `top` on, and nothing changed below
pub record Valued (sp : Spot) (top q : ℕ) (dims f : List ℕ) (u : ℕ) (x : Numbers × ℕ)
    (t : State) : Type 0 where
  pub slots : List ℕ
  pub is : t ≡ here sp q slots x.1
  pub same : Below top f slots
  pub value : x.0 ≡ record { dims = dims; items = row slots top (slots_of dims) }
  pub less : x.1 ≤ u

pub made_row : (dims f : List ℕ) (b : ℕ)
    → made dims (row f b (elements dims))
    ≡ record { dims = dims; items = row f b (slots_of dims) }
made_row dims f b = at (is_too_large dims)
  where
    at : (t : Bool) → ◌≡◌ {A = Numbers}
        record { dims = dims; items = cond t [] (row f b (elements dims)) }
        record { dims = dims; items = row f b (cond t 0 (elements dims)) }
    at true = refl
    at false = refl

pub slots_are : (dims : List ℕ) → is_too_large dims ≡ false → slots_of dims ≡ elements dims
slots_are dims e = ap (λ b. cond b 0 (elements dims)) e

fold_more : (a b : ℕ) (dims : List ℕ) → a ≤ b → fold max a dims ≤ fold max b dims
fold_more a b [] h = h
fold_more a b (d ∷ ds) h = fold_more (max a d) (max b d) ds (omega arith)

-- a list of arrays that are too large is too large
pub all_large : (n : ℕ) (dims : List ℕ) → is_too_large dims ≡ true
    → is_too_large (suc n ∷ dims) ≡ true
all_large n dims large =
    let less : 1048576 < max (elements dims) (fold max 0 dims) =
    ltb-true 1048576 (max (elements dims) (fold max 0 dims)) large in
    let times : suc n * elements dims ≡ n * elements dims + elements dims =
    suc-mul n (elements dims) in
    let folds : fold max 0 dims ≤ fold max (max 0 (suc n)) dims =
    fold_more 0 (max 0 (suc n)) dims (omega arith) in
    lt-ltb 1048576 (max (suc n * elements dims) (fold max (max 0 (suc n)) dims))
    (omega (arith, less, times, folds))

-- arrays one behind the other; those that are too large have no numbers
pub rows_made : (n : ℕ) (dims f : List ℕ) (b : ℕ)
    → made (suc n ∷ dims) (row f b (suc n * slots_of dims))
    ≡ record { dims = suc n ∷ dims; items = row f b (slots_of (suc n ∷ dims)) }
rows_made n dims f b = at (is_too_large dims) refl
  where
    at : (t : Bool) → is_too_large dims ≡ t → ◌≡◌ {A = Numbers}
        (made (suc n ∷ dims) (row f b (suc n * slots_of dims)))
        record { dims = suc n ∷ dims; items = row f b (slots_of (suc n ∷ dims)) }
    at true large =
        let all : is_too_large (suc n ∷ dims) ≡ true = all_large n dims large in
        ap (λ t. record {
          dims = suc n ∷ dims;
          items = cond t [] (row f b (suc n * slots_of dims));
        }) all
        ∙ sym (ap (λ t. record {
          dims = suc n ∷ dims;
          items = row f b (cond t 0 (elements (suc n ∷ dims)));
        }) all)
    at false small =
        ap (λ x. made (suc n ∷ dims) (row f b (suc n * x))) (slots_are dims small)
        ∙ made_row (suc n ∷ dims) f b

pub few_elements : (dims : List ℕ) → is_too_large dims ≡ false → elements dims < P
few_elements dims e =
    let h : max (elements dims) (fold max 0 dims) ≤ 1048576 =
    ltb-false 1048576 (max (elements dims) (fold max 0 dims)) e in
    omega (arith, h)

-- indices that are tested lead on with the part that they mean
pub bounded_is : {A : Type 0} (dims is : List ℕ) (go : List ℕ → List ℕ → Result A ℕ)
    → length is ≤ length dims
    → next (checked dims is)
    (λ o. go (drop (length is) dims) (numbers_from o (elements (drop (length is) dims))))
    ≡ bounded dims is go
bounded_is dims is go le =
    ap (λ r. next r
    (λ o. go (drop (length is) dims) (numbers_from o (elements (drop (length is) dims)))))
    (checked_is dims is) ∙
    at (is_inside dims (map Some is)) ∙
    ap₂ (λ x ps. cond (is_inside dims (map Some is)) (go (unwrap_or x []) ps) (Err index_out))
    (sym (left_is dims is le)) (sym (places_are dims is le))
  where
    at : (b : Bool) → next (cond b (Ok (offset dims is)) (Err index_out))
        (λ o. go (drop (length is) dims) (numbers_from o (elements (drop (length is) dims))))
        ≡ cond b (go (drop (length is) dims)
        (numbers_from (offset dims is) (elements (drop (length is) dims)))) (Err index_out)
    at true = refl
    at false = refl

-- what stands at places that follow each other
abbrev pub Answers : (R : List ℕ → Result (List ℕ) ℕ) → (f : List ℕ) → (base size : ℕ) → Type 0
Answers R f base size =
    (o m : ℕ) → o + m ≤ size
    → (R (numbers_from o m) ≡ Ok (row f (base + o) m)) ⊎ (R (numbers_from o m) ≡ Err 0)

abbrev pub part_read : (R : List ℕ → Result (List ℕ) ℕ) → (u : ℕ) → List ℕ → List ℕ → Ran Numbers
part_read R u left places = next (R places) (λ items. gives (made left items) u)

module _ (k : Setting) (sp : Spot) (params : ℕ → ℕ) (width : ℕ)
    (wide : IsWide params width (body_at k sp)) where
  read_does : (h : Home) (count top p : ℕ) (f : List ℕ) (u : ℕ)
      (R : List ℕ → Result (List ℕ) ℕ) → length f ≡ width → Lies top h → count ≤ length h.dims
      → Answers R f h.base (slots_of h.dims) → HasAt (body_at k sp) p (read_code (Some h) top count)
      → Does k (here sp p f u) (bounded h.dims (row f top count) (part_read R u))
      (Valued sp top (p + length (read_code (Some h) top count)) (drop count h.dims) f u)
  read_does h zero top p f u R len l le answers at =
      whole (answers 0 (elements h.dims) (omega (arith, slots_are h.dims l.fits)))
    where
      n : ℕ
      n = slots_of h.dims

      Q : Numbers × ℕ → State → Type 0
      Q = Valued sp top (p + length (moves top h.base n)) h.dims f u

      whole : (R (numbers_from 0 (elements h.dims)) ≡ Ok (row f (h.base + 0) (elements h.dims)))
          ⊎ (R (numbers_from 0 (elements h.dims)) ≡ Err 0)
          → Does k (here sp p f u) (part_read R u h.dims (numbers_from 0 (elements h.dims))) Q
      whole (inr e) =
          does_same k Q (here sp p f u) (Err 0) _
          (ap (λ r. next r (λ items. gives (made h.dims items) u)) (sym e))
          (misses k Q (here sp p f u))
      whole (inl e) =
          let z : h.base + 0 ≡ h.base = omega arith in
          does_same k Q (here sp p f u)
          (Ok (record { dims = h.dims; items = row f h.base n }, u)) _
          (ap (λ d. gives d u) (sym (ap (λ b. made h.dims (row f b (elements h.dims))) z ∙
          made_row h.dims f h.base)) ∙
          ap (λ r. next r (λ items. gives (made h.dims items) u)) (sym e))
          (moves_go k sp params width wide Q _ top h.base n p f u len at (inr l.below)
          (λ g c. there k Q _ _ record {
            slots = g;
            is = refl;
            same = copied_below f g top h.base n c;
            value = ap (λ r. record { dims = h.dims; items = r })
                (sym (row_got f g top h.base n c));
            less = omega arith;
          }))
  read_does h (suc n) top p f u R len l le answers at =
      does_same k Q (here sp p f u) (next (checked h.dims is) go) (bounded h.dims is (part_read R
      u))
      (ap (λ c. next (checked h.dims is) (λ o. part_read R u (drop c h.dims)
      (numbers_from o (elements (drop c h.dims))))) (sym count) ∙
      bounded_is h.dims is (part_read R u) (omega (arith, count, le)))
      (does_next k (Offset sp top (p + length first) f u) Q (here sp p f u) (checked h.dims is) go
      (offset_does k sp params width wide h.dims n top p f u len (omega (arith, le))
      (few_elements h.dims l.fits) (has_front (body_at k sp) p first (loads top h.base m) at))
      (λ o t e x. at_state k Q (here sp (p + length first) x.slots u) t (go o) x.is
      (part o x.slots e x.same x.value
      (answers o (elements left) (omega (arith, slots_are h.dims l.fits, inside o e))))))
    where
      is : List ℕ
      is = row f top (suc n)

      count : length is ≡ suc n
      count = row_length f top (suc n)

      left : List ℕ
      left = drop (suc n) h.dims

      m : ℕ
      m = slots_of left

      first : List Op
      first = offset_code top h.dims n

      go : ℕ → Ran Numbers
      go o = part_read R u left (numbers_from o (elements left))

      q : ℕ
      q = p + length (first ++ loads top h.base m)

      Q : Numbers × ℕ → State → Type 0
      Q = Valued sp top q left f u

      inside : (o : ℕ) → checked h.dims is ≡ Ok o → o + elements left ≤ elements h.dims
      inside o e =
          subst (λ c. o + elements (drop c h.dims) ≤ elements h.dims) count
          (checked_fits h.dims is o (omega (arith, count, le)) e)

      few : m ≤ elements left
      few = elim (is_too_large left) as (λ b. cond b 0 (elements left) ≤ elements left) [
        | true ↦ omega arith
        | false ↦ omega arith
      ]

      part : (o : ℕ) (f1 : List ℕ) → checked h.dims is ≡ Ok o → Below top f f1
          → slice_index f1 top ≡ o
          → (R (numbers_from o (elements left)) ≡ Ok (row f (h.base + o) (elements left)))
          ⊎ (R (numbers_from o (elements left)) ≡ Err 0)
          → Does k (here sp (p + length first) f1 u) (go o) Q
      part o f1 e b v (inr r) =
          does_same k Q (here sp (p + length first) f1 u) (Err 0) (go o)
          (ap (λ x. next x (λ items. gives (made left items) u)) (sym r))
          (misses k Q (here sp (p + length first) f1 u))
      part o f1 e b v (inl r) =
          let in_home : h.base + o + m ≤ top =
          omega (arith, few, inside o e, slots_are h.dims l.fits, l.below) in
          let end : p + length first + length (loads top h.base m) ≡ q =
          omega (arith, length-append first (loads top h.base m)) in
          does_same k Q (here sp (p + length first) f1 u)
          (Ok (record { dims = left; items = row f (h.base + o) m }, u)) (go o)
          (ap (λ d. gives d u) (sym (made_row left f (h.base + o))) ∙
          ap (λ x. next x (λ items. gives (made left items) u)) (sym r))
          (loads_go k sp params width wide Q _ top h.base o m (p + length first) f1 u
          (b.size ∙ len) (has_back (body_at k sp) p first (loads top h.base m) at) (λ x. v) in_home
          (λ g c. there k Q _ _ record {
            slots = g;
            is = ap (λ x. here sp x g u) end;
            same = below_then top top f f1 g (omega arith) b
                (copied_below f1 g top (h.base + o) m c);
            value = ap (λ r. record { dims = left; items = r })
                (sym (row_got f1 g top (h.base + o) m c ∙
                row_below top f f1 (h.base + o) m b in_home));
            less = omega arith;
          }))

  pub stored_does : (h : Home) (d : Numbers) (count top p : ℕ) (f : List ℕ) (u : ℕ)
      → length f ≡ width → Lies top h → count ≤ length h.dims
      → d ≡ record { dims = h.dims; items = row f h.base (slots_of h.dims) }
      → HasAt (body_at k sp) p (read_code (Some h) top count)
      → Does k (here sp p f u) (read_stored d (row f top count) u)
      (Valued sp top (p + length (read_code (Some h) top count)) (drop count h.dims) f u)
  stored_does h d count top p f u len l le held at =
      subst (λ x. Does k (here sp p f u) (read_stored x (row f top count) u)
      (Valued sp top (p + length (read_code (Some h) top count)) (drop count h.dims) f u))
      (sym held)
      (read_does h count top p f u
      (λ ps. Ok (map (slice_index (row f h.base (slots_of h.dims))) ps)) len l le
      (λ o m x. inl (ap Ok (row_part f h.base (slots_of h.dims) o m x))) at)

  pub wired_does : (h : Home) (d : Shaped (Option ℕ)) (count top p : ℕ) (f : List ℕ) (u : ℕ)
      → length f ≡ width → Lies top h → count ≤ length h.dims
      → Carries d h.dims (row f h.base (slots_of h.dims))
      → HasAt (body_at k sp) p (read_code (Some h) top count)
      → Does k (here sp p f u) (read_wired d (row f top count) u)
      (Valued sp top (p + length (read_code (Some h) top count)) (drop count h.dims) f u)
  wired_does h d count top p f u len l le held at =
      subst (λ x. Does k (here sp p f u) (bounded x (row f top count)
      (part_read (λ ps. all_there (map (option_at d.items) ps)) u))
      (Valued sp top (p + length (read_code (Some h) top count)) (drop count h.dims) f u))
      (sym held.dims')
      (read_does h count top p f u (λ ps. all_there (map (option_at d.items) ps)) len l le
      (λ o m x. all_there_is d h.dims f h.base (slots_of h.dims) o m held x) at)
