-- The part that indices mean.
use Rattle.std.proofs.Common.{◌≡◌, ℕ, ◌+◌, ◌*◌, ◌<◌, ◌≤◌, ◌⊎◌, inl, inr, Bool, true, false, ◌||◌}
use Rattle.std.proofs.Common.{List, [], ◌∷◌, length, drop, Option, Some, None, is_some, ap, sym}
use Rattle.std.proofs.Common.{◌∙◌, refl, arith}
use Rattle.std.specs.Prelude.{nat_lt, if◌then◌else◌, map, Ok}
use Rattle.std.specs.declared.vec.Vec.{Vec}
use Rattle.std.specs.declared.alloc.Global.{Global}
use Rattle.cir_ast.specs.declared.refusal.Kind.TheVariants.{ShapeDiffers, OutOfBounds}
use Rattle.cir_meaning.specs.Tried.{Where}
use Rattle.cir_meaning.specs.Arrays.{Want, Scalar, Reach, fits, reach}
use Rattle.cir_arrays.specs.declared.stop.Fault.{Fault}
use Rattle.cir_arrays.specs.declared.reach.Part.{Part}
use Rattle.cir_arrays.specs.Stopped.{IsRefusal, Refuses}
use Rattle.std.proofs.Math.Nat.{mul-le-mul_left, mul_comm}
use Rattle.std.proofs.lemmas.Bool.{ltb-true, ltb-false}
use Rattle.std.proofs.lemmas.List.{drop_all}
use Rattle.cir_meaning.proofs.Reaching.{and_true}
use Rattle.cir_meaning.specs.Limits.{standing, size_of, is_too_large}
use Rattle.cir_meaning.specs.Places.{elements, is_inside, left_of, all_known, followed, places_of}
use Rattle.cir_meaning.specs.Places.{numbers_from}
use Rattle.cir_arrays.specs.declared.reach.Part.TheVariants.{Known, Unknown, Outside}
use Rattle.cir_arrays.specs.Reached.{IsPart, Reaches, first_of, places_within, reached}
use Rattle.cir_arrays.proofs.Runs.{shifted, length_numbers}

pub left_many : (ds : List ℕ) (is : List (Option ℕ)) → length ds < length is
    → left_of ds is ≡ None
left_many ds [] h = absurd (omega arith)
left_many [] (i ∷ is) h = refl
left_many (d ∷ ds) (i ∷ is) h = left_many ds is (omega arith)

pub left_few : (ds : List ℕ) (is : List (Option ℕ)) → length is ≤ length ds
    → left_of ds is ≡ Some (drop (length is) ds)
left_few ds [] h = refl
left_few [] (i ∷ is) h = absurd (omega arith)
left_few (d ∷ ds) (i ∷ is) h = left_few ds is (omega arith)

known_rest : (i : ℕ) (o : Option (List ℕ)) → is_some (followed i o) ≡ true → is_some o ≡ true
known_rest i None h = h
known_rest i (Some is) h = refl

-- known indices mean a run of places
pub known_run : (ds : List ℕ) (is : List (Option ℕ)) → length is ≤ length ds
    → is_some (all_known is) ≡ true
    → places_of ds is ≡ numbers_from (first_of ds is) (elements (drop (length is) ds))
known_run ds [] h k = refl
known_run [] (i ∷ is) h k = absurd (omega arith)
known_run (d ∷ ds) (None ∷ is) h k = absurd (cc)
known_run (d ∷ ds) (Some i ∷ is) h k =
    ap (map (λ (x : ℕ). i * elements ds + x))
    (known_run ds is (omega arith) (known_rest i (all_known is) k))
    ∙ shifted (i * elements ds) (first_of ds is) (elements (drop (length is) ds))

one_row : (i d e x : ℕ) → i < d → x ≤ e → i * e + x ≤ d * e
one_row i d e x h k =
    let rows : e * (i + 1) ≤ e * d = mul-le-mul_left e (omega arith) in
    let one : e * (i + 1) ≡ i * e + e = mul_comm e (i + 1) ∙ omega arith in
    let all : e * d ≡ d * e = mul_comm e d in
    omega arith

-- which ends within the array
pub run_within : (ds : List ℕ) (is : List (Option ℕ)) → length is ≤ length ds
    → is_inside ds is ≡ true → is_some (all_known is) ≡ true
    → first_of ds is + elements (drop (length is) ds) ≤ elements ds
run_within ds [] h inside k = omega arith
run_within [] (i ∷ is) h inside k = absurd (omega arith)
run_within (d ∷ ds) (None ∷ is) h inside k = absurd (cc)
run_within (d ∷ ds) (Some i ∷ is) h inside k =
    let t = and_true (nat_lt i d) (is_inside ds is) inside in
    let rest = run_within ds is (omega arith) t.1 (known_rest i (all_known is) k) in
    let row = one_row i d (elements ds) (first_of ds is + elements (drop (length is) ds))
    (ltb-true i d t.0) rest in
    omega arith

pub small_elements : (ds : List ℕ) → is_too_large ds ≡ false → elements ds ≤ 1048576
small_elements ds h = omega (arith, ltb-false 1048576 (size_of ds) h)

pub known_part : (ds : List ℕ) (is : List (Option ℕ)) (first count : ℕ) → length is ≤ length ds
    → is_inside ds is ≡ true → is_some (all_known is) ≡ true → first ≡ standing (first_of ds is)
    → count ≡ standing (elements (drop (length is) ds))
    → IsPart ds is (Known first count) (reached ds is (drop (length is) ds))
known_part ds is first count h inside k f e = rw inside record {
  sure = sym k;
  places = λ large.
      let small = small_elements ds large in
      let bound = run_within ds is h inside k in
      let first' : first ≡ first_of ds is = omega (arith, f) in
      let count' : count ≡ elements (drop (length is) ds) = omega (arith, e) in
      rw (first', count') (sym run);
  all = rw inside refl;
  count = e ∙ ap standing (sym many);
  whole = λ t. many;
  kind = inside;
}
  where
    run : places_of ds is ≡ numbers_from (first_of ds is) (elements (drop (length is) ds))
    run = known_run ds is h k

    many : length (places_of ds is) ≡ elements (drop (length is) ds)
    many = ap length run ∙ length_numbers (first_of ds is) (elements (drop (length is) ds))

pub unknown_part : (ds : List ℕ) (is : List (Option ℕ)) → is_inside ds is ≡ true
    → is_some (all_known is) ≡ false → IsPart ds is Unknown (reached ds is (drop (length is) ds))
unknown_part ds is inside k = rw inside record {
  sure = sym k;
  places = λ large. refl;
  all = rw inside refl;
  count = tt;
  whole = λ t. absurd (cc);
  kind = (inside, k);
}

pub outside_part : (ds : List ℕ) (is : List (Option ℕ)) → is_inside ds is ≡ false
    → IsPart ds is Outside (reached ds is (drop (length is) ds))
outside_part ds is inside = rw inside record {
  sure = refl;
  places = λ large. refl;
  all = rw inside refl;
  count = tt;
  whole = λ t. absurd (cc);
  kind = inside;
}

pub refuses_many : (f : Fault) (w : Where) (shaded : Bool) (want : Want) (ds : List ℕ)
    (is : List (Option ℕ)) → length ds < length is → Refuses w ShapeDiffers f
    → IsRefusal f (reach w shaded want ds is)
refuses_many f w shaded want ds is h r = rw (left_many ds is h) r

pub refuses_outside : (f : Fault) (w : Where) (shaded : Bool) (want : Want) (ds : List ℕ)
    (is : List (Option ℕ)) → length is ≤ length ds → is_inside ds is ≡ false → shaded ≡ false
    → Refuses w OutOfBounds f → IsRefusal f (reach w shaded want ds is)
refuses_outside f w shaded want ds is h inside s r = rw (left_few ds is h, inside, s) r

or_true : (b s : Bool) → (b ≡ true) ⊎ (s ≡ true) → (b || s) ≡ true
or_true true s h = refl
or_true false s (inl h) = absurd (cc)
or_true false s (inr h) = h

pub refuses_shape : (f : Fault) (w : Where) (shaded : Bool) (want : Want) (ds left : List ℕ)
    (is : List (Option ℕ)) → length is ≤ length ds
    → (is_inside ds is ≡ true) ⊎ (shaded ≡ true) → left ≡ drop (length is) ds
    → fits want left ≡ false → Refuses w ShapeDiffers f → IsRefusal f (reach w shaded want ds is)
refuses_shape f w shaded want ds left is h o l unfit r =
    let unfit' : fits want (drop (length is) ds) ≡ false = rw l at unfit in
    let or' : (is_inside ds is || shaded) ≡ true =
    or_true (is_inside ds is) shaded o in
    rw (left_few ds is h, or', unfit') r

reached_left : (ds : List ℕ) (is : List (Option ℕ)) (left : List ℕ)
    → left ≡ (reached ds is left).left
reached_left ds is left = at (is_inside ds is)
  where
    chosen : Bool → Reach
    chosen b = if b
        then record { left = left; is_sure = is_some (all_known is); places = places_of ds is }
        else record { left = left; is_sure = false; places = [] }

    at : (b : Bool) → left ≡ (chosen b).left
    at true = refl
    at false = refl

pub reaches : (w : Where) (shaded : Bool) (want : Want) (ds left : List ℕ) (is : List (Option ℕ))
    (v : Vec ℕ Global) (p : Part) → length is ≤ length ds
    → (is_inside ds is ≡ true) ⊎ (shaded ≡ true) → left ≡ drop (length is) ds
    → fits want left ≡ true → v.items ≡ left
    → IsPart ds is p (reached ds is (drop (length is) ds))
    → Reaches ds is (Ok record { left = v; part = p }) (reach w shaded want ds is)
reaches w shaded want ds left is v p h o l fit items part =
    let fit' : fits want (drop (length is) ds) ≡ true = rw l at fit in
    let or' : (is_inside ds is || shaded) ≡ true =
    or_true (is_inside ds is) shaded o in (
      reached ds is (drop (length is) ds),
      rw (left_few ds is h, or', fit') refl,
      record {
        left = items ∙ (l ∙ reached_left ds is (drop (length is) ds));
        sure = part.sure;
        places = part.places;
        all = part.all;
        count = part.count;
        whole = part.whole;
        kind = part.kind;
      },
    )

pub scalar_left : (left : List ℕ) → fits Scalar left ≡ true → left ≡ []
scalar_left [] h = refl
scalar_left (d ∷ ds) h = absurd (cc)

-- the places of a run within an array that isn't too large
pub run_places : (ds : List ℕ) (is : List (Option ℕ)) (first count : ℕ) (places : List ℕ)
    → length is ≤ length ds → is_inside ds is ≡ true → is_some (all_known is) ≡ true
    → elements ds ≤ 67108864 → first ≡ standing (first_of ds is)
    → count ≡ standing (elements (drop (length is) ds)) → places ≡ numbers_from first count
    → places ≡ places_of ds is
run_places ds is first count places h inside k small f e p =
    let bound = run_within ds is h inside k in
    let first' : first ≡ first_of ds is = omega (arith, f) in
    let count' : count ≡ elements (drop (length is) ds) = omega (arith, e) in
    p ∙ ap (λ (n : ℕ). numbers_from n count) first'
    ∙ ap (numbers_from (first_of ds is)) count' ∙ sym (known_run ds is h k)

pub within_inside : (ds : List ℕ) (is : List (Option ℕ)) → is_inside ds is ≡ true
    → places_within ds is ≡ places_of ds is
within_inside ds is inside = rw inside refl

no_left : (ds : List ℕ) (is : List (Option ℕ)) → length is ≡ length ds
    → drop (length is) ds ≡ []
no_left ds is e = drop_all (length is) ds (omega (arith, e))

-- one place, where there is an index for each dimension
pub one_place : (ds : List ℕ) (is : List (Option ℕ)) (first : ℕ) → length is ≡ length ds
    → is_inside ds is ≡ true → is_some (all_known is) ≡ true → elements ds ≤ 67108864
    → first ≡ standing (first_of ds is) → places_within ds is ≡ first ∷ []
one_place ds is first e inside k small f =
    within_inside ds is inside
    ∙ sym (run_places ds is first 1 (first ∷ []) (omega (arith, e)) inside k small f
    (ap (λ (xs : List ℕ). standing (elements xs)) (sym (no_left ds is e))) refl)

pub none_left : (ds : List ℕ) (is : List (Option ℕ)) → length is ≡ length ds
    → left_of ds is ≡ Some []
none_left ds is e =
    left_few ds is (omega (arith, e)) ∙ ap (λ (xs : List ℕ). Some xs) (no_left ds is e)
