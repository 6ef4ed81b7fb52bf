-- Row order, index by index.
use Rattle.std.proofs.Common.{◌≡◌, ℕ, zero, suc, ◌+◌, ◌*◌, ◌/◌, ◌%◌, ◌<◌, ◌≤◌, Bool, true, false}
use Rattle.std.proofs.Common.{cond, List, [], ◌∷◌, ◌++◌, length, take, drop, get_or, Option, Some}
use Rattle.std.proofs.Common.{None, refl, ap, subst, ◌∙◌, arith, rules}
use Rattle.std.specs.Prelude.{nat_lt}
use Rattle.std.proofs.lemmas.Bool.{ltb-true, lt-ltb}
use Rattle.std.proofs.Math.Nat.{div-lt_iff_lt-mul, mul-le-mul_left, mul-le-mul_right}
use Rattle.std.proofs.lemmas.List.{drop_more, take_more}
use Rattle.cir_values.specs.Places.{elements, counted_on, place_of, IsInside}

positive_product : (a b : ℕ) → 0 < a → 0 < b → 0 < a * b
positive_product a b h k = grind arith

inside_positive : (ds is : List ℕ) → IsInside ds is → 0 < elements ds
inside_positive [] is h = omega arith
inside_positive (d ∷ ds) [] h = absurd h
inside_positive (d ∷ ds) (i ∷ is) h =
    positive_product d (elements ds) (omega (arith, h.0)) (inside_positive ds is h.1)

counted_twice : (a b : ℕ) (o : Option ℕ) → counted_on a (counted_on b o) ≡ counted_on (a + b) o
counted_twice a b None = refl
counted_twice a b (Some m) = ap Some (omega arith)

-- one more index: the row that it counts, of all that are left
pub one_more : (place d i : ℕ) (ds is : List ℕ) → i < d
    → counted_on (place * elements (d ∷ ds)) (place_of (d ∷ ds) (i ∷ is))
    ≡ counted_on ((place * d + i) * elements ds) (place_of ds is)
one_more place d i ds is h =
    let lt : nat_lt i d ≡ true = search rules in
    let n : place * (d * elements ds) + i * elements ds ≡ (place * d + i) * elements ds =
    grind arith in
    ap (λ b. counted_on (place * (d * elements ds))
    (cond b (counted_on (i * elements ds) (place_of ds is)) None)) lt
    ∙ counted_twice (place * (d * elements ds)) (i * elements ds) (place_of ds is)
    ∙ ap (λ n. counted_on n (place_of ds is)) n

-- so many elements are counted at most
pub room_more : (place d i : ℕ) (ds : List ℕ) (all : ℕ) → i < d
    → (place + 1) * elements (d ∷ ds) ≤ all → (place * d + i + 1) * elements ds ≤ all
room_more place d i ds all h le =
    let a : place * d + i + 1 ≤ (place + 1) * d = omega arith in
    let b : (place + 1) * d * elements ds ≡ (place + 1) * (d * elements ds) = grind arith in
    omega (arith, mul-le-mul_right (elements ds) a, b, le)

pub room_now : (place d i : ℕ) (ds is : List ℕ) (all : ℕ) → IsInside (d ∷ ds) (i ∷ is)
    → (place + 1) * elements (d ∷ ds) ≤ all → (place + 1) * d ≤ all
room_now place d i ds is all h le =
    let e : 1 ≤ elements ds = inside_positive ds is h.1 in
    let m : (place + 1) * d * 1 ≤ (place + 1) * d * elements ds =
    mul-le-mul_left ((place + 1) * d) e in
    let b : (place + 1) * d * elements ds ≡ (place + 1) * (d * elements ds) = grind arith in
    omega (arith, m, b, le)

pub inside_lengths : (ds is : List ℕ) → IsInside ds is → length ds ≡ length is
inside_lengths [] [] h = refl
inside_lengths [] (i ∷ is) h = absurd h
inside_lengths (d ∷ ds) [] h = absurd h
inside_lengths (d ∷ ds) (i ∷ is) h = omega (arith, inside_lengths ds is h.1)

none_by : (b : Bool) (n : ℕ) (o : Option ℕ) → (b ≡ true → o ≡ None)
    → cond b (counted_on n o) None ≡ None
none_by true n o h = ap (counted_on n) (h refl)
none_by false n o h = refl

pub none_outside : (ds is : List ℕ) → (IsInside ds is → ⊥) → place_of ds is ≡ None
none_outside [] [] h = absurd (h tt)
none_outside [] (i ∷ is) h = refl
none_outside (d ∷ ds) [] h = refl
none_outside (d ∷ ds) (i ∷ is) h =
    none_by (nat_lt i d) (i * elements ds) (place_of ds is)
    (λ lt. none_outside ds is (λ rest. h (ltb-true i d lt, rest)))

-- the dimension and the index at a place, and those after them
pub opened : (at : ℕ) (dims index : List ℕ) → at < length dims → IsInside dims index
    → IsInside (drop at dims) (drop at index)
    → (drop at dims ≡ get_or dims at 0 ∷ drop (at + 1) dims)
    × (drop at index ≡ get_or index at 0 ∷ drop (at + 1) index)
    × IsInside (get_or dims at 0 ∷ drop (at + 1) dims) (get_or index at 0 ∷ drop (at + 1) index)
opened at dims index lt all here =
    let li : at < length index = omega (arith, inside_lengths dims index all) in
    let a = drop_more dims at 0 lt in
    let b = drop_more index at 0 li in (
      a,
      b,
      subst (λ ds. IsInside ds (get_or index at 0 ∷ drop (at + 1) index)) a
          (subst (IsInside (drop at dims)) b here),
    )

-- the dimension counts no more than there are elements
pub fits_row : (place at : ℕ) (dims index : List ℕ) → at < length dims → IsInside dims index
    → IsInside (drop at dims) (drop at index)
    → (place + 1) * elements (drop at dims) ≤ elements dims
    → (place + 1) * get_or dims at 0 ≤ elements dims
fits_row place at dims index lt all here room =
    let o = opened at dims index lt all here in
    room_now place (get_or dims at 0) (get_or index at 0) (drop (at + 1) dims) (drop (at + 1) index)
    (elements dims) o.2 (subst (λ ds. (place + 1) * elements ds ≤ elements dims) o.0 room)

-- rows and the place in the last of them make up a place
pub record CountsTo (ds index : List ℕ) (rows place : ℕ) : Type 0 where
  pub last : ℕ
  pub at : place_of ds index ≡ Some last
  pub same : place ≡ rows * elements ds + last

positive_factor : (a d rows : ℕ) → rows < a * d → 0 < d
positive_factor a zero rows h = omega (arith, h)
positive_factor a (suc d) rows h = omega arith

div-lt : (rows a d : ℕ) → 0 < d → rows < a * d → rows / d < a
div-lt rows a d h k = (div-lt_iff_lt-mul {k = d} {x = rows} {y = a} h).1 k

-- a place of rows, taken apart by one more dimension
pub counts_more : (d rows place : ℕ) (ds index : List ℕ) → 0 < d → CountsTo ds index rows place
    → CountsTo (d ∷ ds) (rows % d ∷ index) (rows / d) place
counts_more d rows place ds index h c =
    let lt : nat_lt (rows % d) d ≡ true = lt-ltb (rows % d) d (omega arith) in
    let r : rows ≡ rows / d * d + rows % d = omega arith in
    record {
      last = rows % d * elements ds + c.last;
      at = ap (λ b. cond b (counted_on (rows % d * elements ds) (place_of ds index)) None) lt
          ∙ ap (counted_on (rows % d * elements ds)) c.at;
      same =
          let split : rows * elements ds ≡ (rows / d * d + rows % d) * elements ds =
          ap (λ n. n * elements ds) r in
          let out : (rows / d * d + rows % d) * elements ds ≡ rows / d * (d * elements ds)
          + rows % d * elements ds = grind arith in
          omega (arith, c.same, split, out);
    }

elements_append : (xs ys : List ℕ) → elements (xs ++ ys) ≡ elements xs * elements ys
elements_append [] ys = omega arith
elements_append (x ∷ xs) ys =
    let e = elements_append xs ys in
    let m : x * (elements xs * elements ys) ≡ x * elements xs * elements ys = grind arith in
    ap (λ n. x * n) e ∙ m

-- fewer rows are left by one more dimension, which isn't 0
pub room_less : (n rows : ℕ) (ds : List ℕ) → n < length ds → rows < elements (take (n + 1) ds)
    → (0 < get_or ds n 0) × (rows / get_or ds n 0 < elements (take n ds))
room_less n rows ds lt h =
    let d = get_or ds n 0 in
    let e : elements (take (n + 1) ds) ≡ elements (take n ds) * (d * 1) =
    ap elements (take_more ds n 0 lt) ∙ elements_append (take n ds) (d ∷ []) in
    let f : rows < elements (take n ds) * d = omega (arith, h, e) in
    let p : 0 < d = positive_factor (elements (take n ds)) d rows f in
    (p, div-lt rows (elements (take n ds)) d p f)
