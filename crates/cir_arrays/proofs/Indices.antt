-- Places that indices mean, an index at a time.
use Rattle.std.proofs.Common.{◌≡◌, ℕ, zero, suc, ◌+◌, ◌*◌, ◌<◌, ◌≤◌, Bool, true, false, ◌&&◌, List}
use Rattle.std.proofs.Common.{[], ◌∷◌, ◌++◌, length, get_or, take, drop, Option, Some, None, ap}
use Rattle.std.proofs.Common.{sym, ◌∙◌, refl, add_assoc, add-zero, zero-add, arith}
use Rattle.std.specs.Prelude.{◌-◌, if◌then◌else◌, map, flat_map, nat_lt, unwrap_or}
use Rattle.std.proofs.Math.Nat.{le-mul_of_pos_right}
use Rattle.std.proofs.lemmas.Bool.{ltb-true}
use Rattle.std.proofs.lemmas.Grind.{flat_map-append}
use Rattle.std.proofs.lemmas.List.{append-nil, map-append, at_drop_more, drop_all, take_rest}
use Rattle.cir_meaning.proofs.Reaching.{and_true}
use Rattle.cir_meaning.specs.Limits.{standing}
use Rattle.cir_meaning.specs.Places.{elements, is_inside, places_of, numbers_from}
use Rattle.cir_arrays.specs.Reached.{first_of, is_under, parts_at, places_within}
use Rattle.cir_arrays.proofs.Runs.{shifted}

-- what two lists make, where both have an element more
two_more : {X Y Z : Type 0} (F : List X → List Y → Z) (xs : List X) (ys : List Y) (at : ℕ) (x : X)
    (y : Y) → at < length xs → at < length ys
    → F (drop at xs) (drop at ys)
    ≡ F (get_or xs at x ∷ drop (at + 1) xs) (get_or ys at y ∷ drop (at + 1) ys)
two_more F xs ys at x y h k =
    at_drop_more (λ zs. F zs (drop at ys)) xs at x h
    ∙ at_drop_more (F (get_or xs at x ∷ drop (at + 1) xs)) ys at y k

inside_cons : (d : ℕ) (i : Option ℕ) (ds : List ℕ) (is : List (Option ℕ))
    → is_inside (d ∷ ds) (i ∷ is) ≡ (is_under d i && is_inside ds is)
inside_cons d None ds is = refl
inside_cons d (Some i) ds is = refl

pub inside_more : (ds : List ℕ) (is : List (Option ℕ)) (at d : ℕ) (i : Option ℕ) → at < length ds
    → at < length is → is_inside (drop at ds) (drop at is)
    ≡ (is_under (get_or ds at d) (get_or is at i)
    && is_inside (drop (at + 1) ds) (drop (at + 1) is))
inside_more ds is at d i h k =
    two_more is_inside ds is at d i h k
    ∙ inside_cons (get_or ds at d) (get_or is at i) (drop (at + 1) ds) (drop (at + 1) is)

pub inside_none : (is : List (Option ℕ)) → is_inside [] is ≡ true
inside_none [] = refl
inside_none (i ∷ is) = refl

pub first_none : (is : List (Option ℕ)) → first_of [] is ≡ 0
first_none [] = refl
first_none (i ∷ is) = refl

pub first_more : (ds : List ℕ) (is : List (Option ℕ)) (at d : ℕ) (i : Option ℕ) → at < length ds
    → at < length is → first_of (drop at ds) (drop at is)
    ≡ unwrap_or (get_or is at i) 0 * elements (drop (at + 1) ds)
    + first_of (drop (at + 1) ds) (drop (at + 1) is)
first_more ds is at d i h k = two_more first_of ds is at d i h k

-- places behind each of several first ones
plus_plus : (f a : ℕ) (ks : List ℕ)
    → map (λ (k : ℕ). f + k) (map (λ (k : ℕ). a + k) ks) ≡ map (λ (k : ℕ). f + a + k) ks
plus_plus f a [] = refl
plus_plus f a (k ∷ ks) = rw (plus_plus f a ks)
    (ap (λ (x : ℕ). x ∷ map (λ (j : ℕ). f + a + j) ks) (sym (add_assoc f a k)))

plus_rows : (f e : ℕ) (ks ns : List ℕ)
    → map (λ (k : ℕ). f + k) (flat_map (λ (i : ℕ). map (λ (k : ℕ). i * e + k) ks) ns)
    ≡ flat_map (λ (g : ℕ). map (λ (k : ℕ). g + k) ks) (map (λ (i : ℕ). f + i * e) ns)
plus_rows f e ks [] = refl
plus_rows f e ks (n ∷ ns) =
    map-append (λ (k : ℕ). f + k) (map (λ (k : ℕ). n * e + k) ks)
    (flat_map (λ (i : ℕ). map (λ (k : ℕ). i * e + k) ks) ns)
    ∙ (ap (λ (xs : List ℕ). xs ++ map (λ (k : ℕ). f + k)
    (flat_map (λ (i : ℕ). map (λ (k : ℕ). i * e + k) ks) ns)) (plus_plus f (n * e) ks)
    ∙ ap (λ (xs : List ℕ). map (λ (k : ℕ). f + n * e + k) ks ++ xs) (plus_rows f e ks ns))

one_part : (d : ℕ) (i : Option ℕ) (ds : List ℕ) (is : List (Option ℕ)) (f : ℕ)
    → map (λ (k : ℕ). f + k) (places_of (d ∷ ds) (i ∷ is))
    ≡ flat_map (λ (g : ℕ). map (λ (k : ℕ). g + k) (places_of ds is)) (parts_at d i (elements ds) f)
one_part d (Some i) ds is f =
    plus_plus f (i * elements ds) (places_of ds is)
    ∙ sym (append-nil (map (λ (k : ℕ). f + i * elements ds + k) (places_of ds is)))
one_part d None ds is f = plus_rows f (elements ds) (places_of ds is) (numbers_from 0 d)

-- with one index more, the parts of all parts
abbrev pub spread_by : List ℕ → List ℕ → List ℕ
spread_by ks firsts = flat_map (λ (f : ℕ). map (λ (k : ℕ). f + k) ks) firsts

all_parts : (d : ℕ) (i : Option ℕ) (ds : List ℕ) (is : List (Option ℕ)) (firsts : List ℕ)
    → spread_by (places_of (d ∷ ds) (i ∷ is)) firsts
    ≡ spread_by (places_of ds is) (flat_map (parts_at d i (elements ds)) firsts)
all_parts d i ds is [] = refl
all_parts d i ds is (f ∷ fs) =
    ap (λ (xs : List ℕ). xs ++ spread_by (places_of (d ∷ ds) (i ∷ is)) fs) (one_part d i ds is f)
    ∙ (ap (λ (xs : List ℕ). spread_by (places_of ds is) (parts_at d i (elements ds) f) ++ xs)
    (all_parts d i ds is fs)
    ∙ sym (flat_map-append (λ (g : ℕ). map (λ (k : ℕ). g + k) (places_of ds is))
    (parts_at d i (elements ds) f) (flat_map (parts_at d i (elements ds)) fs)))

pub parts_more : (ds : List ℕ) (is : List (Option ℕ)) (at d : ℕ) (i : Option ℕ) (firsts : List ℕ)
    → at < length ds → at < length is
    → spread_by (places_of (drop at ds) (drop at is)) firsts
    ≡ spread_by (places_of (drop (at + 1) ds) (drop (at + 1) is))
    (flat_map (parts_at (get_or ds at d) (get_or is at i) (elements (drop (at + 1) ds))) firsts)
parts_more ds is at d i firsts h k =
    ap (λ (ks : List ℕ). spread_by ks firsts) (two_more places_of ds is at d i h k)
    ∙ all_parts (get_or ds at d) (get_or is at i) (drop (at + 1) ds) (drop (at + 1) is) firsts

-- at the end each part is a run
pub parts_end : (e : ℕ) (firsts : List ℕ)
    → spread_by (numbers_from 0 e) firsts ≡ flat_map (λ (f : ℕ). numbers_from f e) firsts
parts_end e [] = refl
parts_end e (f ∷ fs) =
    ap (λ (xs : List ℕ). xs ++ spread_by (numbers_from 0 e) fs) (shifted f 0 e
    ∙ ap (λ (x : ℕ). numbers_from x e) (add-zero f))
    ∙ ap (λ (xs : List ℕ). numbers_from f e ++ xs) (parts_end e fs)

pub parts_begin : (ks : List ℕ) → spread_by ks (0 ∷ []) ≡ ks
parts_begin [] = refl
parts_begin (k ∷ ks) = rw (zero-add k) (ap (λ (xs : List ℕ). k ∷ xs) (parts_begin ks))

-- no place
no_rows : {g : ℕ → List ℕ} (ns : List ℕ) → ((n : ℕ) → g n ≡ []) → flat_map g ns ≡ []
no_rows [] h = refl
no_rows {g} (n ∷ ns) h = rw (h n) (no_rows ns h)

pub too_many : (ds : List ℕ) (is : List (Option ℕ)) → length ds < length is → places_of ds is ≡ []
too_many ds [] h = absurd (omega arith)
too_many [] (i ∷ is) h = refl
too_many (d ∷ ds) (Some i ∷ is) h =
    ap (map (λ (k : ℕ). i * elements ds + k)) (too_many ds is (omega arith))
too_many (d ∷ ds) (None ∷ is) h =
    no_rows (numbers_from 0 d)
    (λ i. ap (map (λ (k : ℕ). i * elements ds + k)) (too_many ds is (omega arith)))

no_factor : (d e : ℕ) → 0 < d → d * e ≡ 0 → e ≡ 0
no_factor d zero h z = refl
no_factor d (suc e) h z =
    let more : d ≤ d * suc e = le-mul_of_pos_right d (omega arith) in absurd (omega arith)

pub none_within : (ds : List ℕ) (is : List (Option ℕ)) → is_inside ds is ≡ true → elements ds ≡ 0
    → places_of ds is ≡ []
none_within ds [] h z = ap (numbers_from 0) z
none_within [] (i ∷ is) h z = refl
none_within (d ∷ ds) (Some i ∷ is) h z =
    let t = and_true (nat_lt i d) (is_inside ds is) h in
    let below : i < d = ltb-true i d t.0 in
    ap (map (λ (k : ℕ). i * elements ds + k))
    (none_within ds is t.1 (no_factor d (elements ds) (omega arith) z))
none_within (zero ∷ ds) (None ∷ is) h z = refl
none_within (suc d ∷ ds) (None ∷ is) h z =
    no_rows (numbers_from 0 (suc d)) (λ i. ap (map (λ (k : ℕ). i * elements ds + k))
    (none_within ds is h (no_factor (suc d) (elements ds) (omega arith) z)))

pub within_none : (ds : List ℕ) (is : List (Option ℕ))
    → (is_inside ds is ≡ true → places_of ds is ≡ []) → places_within ds is ≡ []
within_none ds is h = at (is_inside ds is) h
  where
    at : (b : Bool) → (b ≡ true → places_of ds is ≡ [])
        → (if b then places_of ds is else []) ≡ []
    at true k = k refl
    at false k = refl

pub rest_is : (ds : List ℕ) (k rest : ℕ)
    → rest ≡ standing (elements (take (length ds - k) (drop k ds)))
    → elements (drop k ds) ≤ 67108864 → rest ≡ elements (drop k ds)
rest_is ds k rest e small =
    let r : rest ≡ standing (elements (drop k ds)) =
    e ∙ ap (λ zs. standing (elements zs)) (take_rest ds k) in
    omega (arith, r)

pub places_done : (ds : List ℕ) (is : List (Option ℕ)) (firsts : List ℕ) (at rest : ℕ)
    (places : List ℕ) → is_inside ds is ≡ true → at ≡ length is
    → spread_by (places_of (drop at ds) (drop at is)) firsts ≡ places_of ds is
    → rest ≡ elements (drop (length is) ds)
    → places ≡ flat_map (λ (f : ℕ). numbers_from f rest) firsts → places ≡ places_within ds is
places_done ds is firsts at rest places inside end whole r made =
    let none : drop (length is) is ≡ [] = drop_all (length is) is (omega arith) in
    let w = rw (end, none) at whole in
    made ∙ (ap (λ (e : ℕ). flat_map (λ (f : ℕ). numbers_from f e) firsts) r
    ∙ (sym (parts_end (elements (drop (length is) ds)) firsts) ∙ (w ∙ sym (rw inside refl))))
