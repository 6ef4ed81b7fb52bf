-- What is told of a part that is read when a program is compiled.
use Rattle.cir_meaning.proofs.Good.{good_weaker, good_any, OnGood, good_ok, good_bad, good_next}
use Rattle.cir_meaning.proofs.Good.{good_needed}
use Rattle.std.proofs.Common.{◌≡◌, ℕ, zero, suc, ◌+◌, ◌<◌, ◌≤◌, Bool, true, false, cond, List, []}
use Rattle.std.proofs.Common.{◌∷◌, ◌++◌, length, map, drop, Option, Some, None, Result, Ok, Err}
use Rattle.std.proofs.Common.{refl, sym, ap, ap₂, subst, ◌∙◌, arith}
use Rattle.std.specs.Prelude.{is_some, ◌||◌, ⊤}
use Rattle.cir_ast.specs.declared.refusal.Kind.{Kind}
use Rattle.cir_ast.specs.declared.refusal.Kind.TheVariants.{OutOfBounds, ShapeDiffers}
use Rattle.cir_ast.specs.declared.refusal.Kind.TheVariants.{ReadBeforeWrite, UnknownIndex}
use Rattle.cir_meaning.specs.Tried.{Where, Tried, next, needed, found}
use Rattle.cir_meaning.specs.Places.{elements, left_of, is_inside, all_known, places_of}
use Rattle.cir_meaning.specs.Places.{numbers_from, followed as known_first}
use Rattle.cir_meaning.specs.Arrays.{Want, Scalar, Reach, fits, reach, read_part, made, the_item}
use Rattle.cir_meaning.specs.Arrays.{filled}
use Rattle.cir_meaning.specs.Values.{Value, Known, Opaque}
use Rattle.cir_meaning.specs.Frame.{Frame, ComponentEntry, entry_at}
use Rattle.cir_meaning.specs.Reading.{part_at, part_in}
use Rattle.wit_lower.specs.Homes.{offset}
use Rattle.wit_lower.proofs.Places.{checked, checked_is, checked_fits, places_are}
use Rattle.cir_meaning.specs.RunValues.{index_out}
use Rattle.cir_emit.proofs.Tasks.{all_known_are}

pub good_itself : {E A : Type 0} (m : Result A E) → OnGood (λ a. m ≡ Ok a) m
unfolding OnGood
good_itself (Ok a) = refl
good_itself (Err e) = tt

pub good_const : {E A : Type 0} (C : Type 0) (m : Result A E) → C → OnGood (λ a. C) m
good_const C m c = good_weaker (λ a. ⊤) (λ a. C) m (good_any m) (λ a t. c)

pub good_needs : {A : Type 0} (Q : A → Type 0) (test : Bool) (w : Where) (kind : Kind)
    (go : Tried A) → (test ≡ true → OnGood Q go) → OnGood Q (needed test w kind go)
good_needs Q true w kind go h = h refl
good_needs Q false w kind go h = good_bad Q _

pub good_found : {A B : Type 0} (Q : B → Type 0) (w : Where) (kind : Kind) (o : Option A)
    (go : A → Tried B) → ((a : A) → o ≡ Some a → OnGood Q (go a))
    → OnGood Q (next (found w kind o) go)
good_found Q w kind None go h = good_bad Q _
good_found Q w kind (Some a) go h = h a refl

-- indices that are known when a program is compiled are known
abbrev pub Sharper : (os ks : List (Option ℕ)) → Type 0
Sharper [] [] = Unit {0}
Sharper [] (k ∷ ks) = ⊥
Sharper (o ∷ os) [] = ⊥
Sharper (o ∷ os) (k ∷ ks) = ((n : ℕ) → o ≡ Some n → k ≡ Some n) × Sharper os ks

pub sharper_more : (os ks : List (Option ℕ)) (o k : Option ℕ) → Sharper os ks
    → ((n : ℕ) → o ≡ Some n → k ≡ Some n) → Sharper (os ++ o ∷ []) (ks ++ k ∷ [])
sharper_more [] [] o k s h = (h, tt)
sharper_more [] (j ∷ ks) o k s h = absurd s
sharper_more (p ∷ os) [] o k s h = absurd s
sharper_more (p ∷ os) (j ∷ ks) o k s h = (s.0, sharper_more os ks o k s.1 h)

pub sharper_long : (os ks : List (Option ℕ)) → Sharper os ks → length os ≡ length ks
sharper_long [] [] s = refl
sharper_long [] (k ∷ ks) s = absurd s
sharper_long (o ∷ os) [] s = absurd s
sharper_long (o ∷ os) (k ∷ ks) s = ap (λ n. suc n) (sharper_long os ks s.1)

pub sharper_known : (ks : List (Option ℕ)) (is : List ℕ) → Sharper (map Some is) ks
    → ks ≡ map Some is
sharper_known [] [] s = refl
sharper_known (k ∷ ks) [] s = absurd s
sharper_known [] (i ∷ is) s = absurd s
sharper_known (k ∷ ks) (i ∷ is) s =
    ap₂ (λ x xs. x ∷ xs) (s.0 i refl) (sharper_known ks is s.1)

pub known_again : (is : List ℕ) → all_known (map Some is) ≡ Some is
known_again [] = refl
known_again (i ∷ is) = ap (known_first i) (known_again is)

-- the dimensions that are left
pub record LeftIs (dims : List ℕ) (count : ℕ) (left : List ℕ) : Type 0 where
  pub rank : count ≤ length dims
  pub is : left ≡ drop count dims

pub left_told : (dims : List ℕ) (os : List (Option ℕ)) (left : List ℕ)
    → left_of dims os ≡ Some left → LeftIs dims (length os) left
left_told dims [] left e =
    let same : dims ≡ left = cc in record { rank = omega arith; is = sym same }
left_told [] (o ∷ os) left e = cc
left_told (d ∷ ds) (o ∷ os) left e =
    let r : LeftIs ds (length os) left = left_told ds os left e in
    record { rank = omega (arith, r.rank); is = r.is }

-- what is reached
pub record Reaches (want : Want) (dims : List ℕ) (os : List (Option ℕ)) (r : Reach) : Type 0 where
  pub left : LeftIs dims (length os) r.left
  pub fit : fits want r.left ≡ true
  pub inside : r.is_sure ≡ true → is_inside dims os ≡ true
  pub known : r.is_sure ≡ true → is_some (all_known os) ≡ true
  pub places : is_inside dims os ≡ true → r.places ≡ places_of dims os
  pub outside : is_inside dims os ≡ false → r.places ≡ []

differ : true ≡ false → ⊥
differ e = cc

pub reach_told : (w : Where) (shaded : Bool) (want : Want) (dims : List ℕ) (os : List (Option ℕ))
    → OnGood (Reaches want dims os) (reach w shaded want dims os)
reach_told w shaded want dims os =
    good_found (Reaches want dims os) w ShapeDiffers (left_of dims os) _ (λ left el.
    good_needed (Reaches want dims os) (is_inside dims os || shaded) w OutOfBounds _
    (good_needs (Reaches want dims os) (fits want left) w ShapeDiffers _ (λ fit.
    good_ok (Reaches want dims os) _ (at left el fit (is_inside dims os) refl))))
  where
    at : (left : List ℕ) → left_of dims os ≡ Some left → fits want left ≡ true → (b : Bool)
        → is_inside dims os ≡ b → Reaches want dims os (cond b record {
          left = left;
          is_sure = is_some (all_known os);
          places = places_of dims os;
        } record { left = left; is_sure = false; places = [] })
    at left el fit true e = record {
      left = left_told dims os left el;
      fit = fit;
      inside = λ s. e;
      known = λ s. s;
      places = λ i. refl;
      outside = λ i. absurd (differ (sym e ∙ i));
    }
    at left el fit false e = record {
      left = left_told dims os left el;
      fit = fit;
      inside = λ s. cc;
      known = λ s. cc;
      places = λ i. absurd (differ (sym i ∙ e));
      outside = λ i. refl;
    }

some_is : {A : Type 0} (o : Option A) → is_some o ≡ true → (a : A) × (o ≡ Some a)
some_is None e = cc
some_is (Some a) e = (a, refl)

-- a number that is read and known is at known indices
pub record ReadsKnown (dims : List ℕ) (os : List (Option ℕ)) (item : ℕ → Value)
    (v : ℕ) : Type 0 where
  pub indices : List ℕ
  pub os_are : os ≡ map Some indices
  pub inside : is_inside dims (map Some indices) ≡ true
  pub full : length indices ≡ length dims
  pub below : offset dims indices < elements dims
  pub item_is : item (offset dims indices) ≡ Known v

drop_none : (c : ℕ) (dims : List ℕ) → c ≤ length dims → drop c dims ≡ [] → c ≡ length dims
drop_none zero [] le e = refl
drop_none zero (d ∷ ds) le e = cc
drop_none (suc c) [] le e = absurd (omega (arith, le))
drop_none (suc c) (d ∷ ds) le e = ap (λ n. suc n) (drop_none c ds (omega (arith, le)) e)

-- the one place that indices in full rank mean
pub one_place : (dims is : List ℕ) → length is ≡ length dims → drop (length is) dims ≡ []
    → places_of dims (map Some is) ≡ offset dims is ∷ []
one_place dims is full none =
    places_are dims is (omega (arith, full)) ∙
    ap (λ ds. numbers_from (offset dims is) (elements ds)) none

pub place_below : (dims is : List ℕ) → length is ≡ length dims → drop (length is) dims ≡ []
    → is_inside dims (map Some is) ≡ true → offset dims is < elements dims
place_below dims is full none inside =
    let tested : checked dims is ≡ Ok (offset dims is) =
    checked_is dims is ∙ ap (λ b. cond b (Ok (offset dims is)) (Err index_out)) inside in
    let few : offset dims is + elements (drop (length is) dims) ≤ elements dims =
    checked_fits dims is (offset dims is) (omega (arith, full)) tested in
    let one : elements (drop (length is) dims) ≡ 1 = ap elements none in
    omega (arith, few, one)

map_long : (is : List ℕ) → length (map Some is) ≡ length is
map_long [] = refl
map_long (i ∷ is) = ap (λ n. suc n) (map_long is)

pub read_known : (want : Want) (dims : List ℕ) (os : List (Option ℕ)) (r : Reach)
    (item : ℕ → Value) (v : ℕ) → Reaches want dims os r → r.left ≡ []
    → the_item (read_part r item) ≡ Known v → ReadsKnown dims os item v
read_known want dims os r item v h none e = at r.is_sure refl e
  where
    at : (b : Bool) → r.is_sure ≡ b
        → the_item (cond b (made r.left (map item r.places)) (filled r.left Opaque)) ≡ Known v
        → ReadsKnown dims os item v
    at false eb e =
        let dark : Opaque ≡ Known v =
        sym (ap (λ ds. the_item (filled ds Opaque)) none) ∙ e in cc
    at true eb e =
        let known : (is : List ℕ) × (all_known os ≡ Some is) =
        some_is (all_known os) (h.known eb) in
        let is : List ℕ = known.0 in
        let os_are : os ≡ map Some is = all_known_are os is known.1 in
        let count : length os ≡ length is = ap length os_are ∙ map_long is in
        let left : drop (length os) dims ≡ [] = sym h.left.is ∙ none in
        let left' : drop (length is) dims ≡ [] = ap (λ c. drop c dims) (sym count) ∙ left in
        let full' : length os ≡ length dims = drop_none (length os) dims h.left.rank left in
        let full : length is ≡ length dims = sym count ∙ full' in
        let inside : is_inside dims (map Some is) ≡ true =
        ap (is_inside dims) (sym os_are) ∙ h.inside eb in
        let places : r.places ≡ offset dims is ∷ [] =
        h.places (h.inside eb) ∙ ap (places_of dims) os_are ∙ one_place dims is full left' in
        record {
          indices = is;
          os_are = os_are;
          inside = inside;
          full = full;
          below = place_below dims is full left' inside;
          item_is = sym (ap₂ (λ ds ps. the_item (made ds (map item ps))) none places) ∙ e;
        }

-- a component that known indices mean
abbrev pub IsSpot : ComponentEntry → (os : List (Option ℕ)) → (is : List ℕ) → Option ℕ → Type 0
IsSpot c os is None = is_inside c.dims (map Some is) ≡ false
IsSpot c os is (Some j) =
    (is_inside c.dims (map Some is) ≡ true) × (length is ≡ length c.dims)
    × (entry_at c.parts (offset c.dims is) ≡ Some j)

pub record PartAt (n : ℕ) (os : List (Option ℕ)) (f : Frame) (o : Option ℕ) : Type 0 where
  pub component : ComponentEntry
  pub is_component : entry_at f.components n ≡ Some component
  pub indices : List ℕ
  pub os_are : os ≡ map Some indices
  pub spot : IsSpot component os indices o

pub scalar_left : (left : List ℕ) → fits Scalar left ≡ true → left ≡ []
scalar_left [] e = refl
scalar_left (d ∷ ds) e = cc

pub part_told : (w : Where) (shaded : Bool) (n : ℕ) (os : List (Option ℕ)) (f : Frame)
    → OnGood (PartAt n os f) (part_at w shaded n os f)
part_told w shaded n os f =
    good_found Q w ReadBeforeWrite (entry_at f.components n) _ (λ c ec.
    good_needs Q (is_some (all_known os)) w UnknownIndex _ (λ known.
    let k : (is : List ℕ) × (all_known os ≡ Some is) = some_is (all_known os) known in
    good_next (Reaches Scalar c.dims os) Q (reach w shaded Scalar c.dims os) _
    (reach_told w shaded Scalar c.dims os) (λ r h.
    inside c ec k.0 (all_known_are os k.0 k.1) r h (is_inside c.dims os) refl)))
  where
    Q : Option ℕ → Type 0
    Q = PartAt n os f

    inside : (c : ComponentEntry) → entry_at f.components n ≡ Some c → (is : List ℕ)
        → os ≡ map Some is → (r : Reach) → Reaches Scalar c.dims os r → (b : Bool)
        → is_inside c.dims os ≡ b → OnGood Q (part_in w c r.places)
    inside c ec is os_are r h false e =
        subst (λ ps. OnGood Q (part_in w c ps)) (sym (h.outside e)) (good_ok Q None record {
          component = c;
          is_component = ec;
          indices = is;
          os_are = os_are;
          spot = ap (is_inside c.dims) (sym os_are) ∙ e;
        })
    inside c ec is os_are r h true e =
        let count : length os ≡ length is = ap length os_are ∙ map_long is in
        let left : drop (length os) c.dims ≡ [] =
        sym h.left.is ∙ scalar_left r.left h.fit in
        let left' : drop (length is) c.dims ≡ [] = ap (λ i. drop i c.dims) (sym count) ∙ left in
        let full : length is ≡ length c.dims =
        sym count ∙ drop_none (length os) c.dims h.left.rank left in
        let places : r.places ≡ offset c.dims is ∷ [] =
        h.places e ∙ ap (places_of c.dims) os_are ∙ one_place c.dims is full left' in
        subst (λ ps. OnGood Q (part_in w c ps)) (sym places)
        (good_found Q w ReadBeforeWrite (entry_at c.parts (offset c.dims is)) _
        (λ j ej. good_ok Q (Some j) record {
          component = c;
          is_component = ec;
          indices = is;
          os_are = os_are;
          spot = (ap (is_inside c.dims) (sym os_are) ∙ e, full, ej);
        }))
