-- Indices: the place that they mean, its test against the dimensions, and the part behind it.
use Rattle.std.proofs.Common.{◌≡◌, ℕ, zero, suc, ◌+◌, ◌*◌, ◌<◌, ◌≤◌, Bool, true, false, cond, List}
use Rattle.std.proofs.Common.{[], ◌∷◌, map, length, drop, Some, Result, Ok, Err, refl, ap, ◌∙◌}
use Rattle.std.proofs.Common.{arith, mul-le-mul_right, suc-mul}
use Rattle.std.specs.Prelude.{◌&&◌, nat_lt}
use Rattle.std.proofs.lemmas.Bool.{ltb-true}
use Rattle.cir_meaning.specs.Tried.{next}
use Rattle.cir_meaning.specs.Places.{elements, left_of, is_inside, places_of, numbers_from}
use Rattle.cir_meaning.specs.RunValues.{index_out}
use Rattle.wit_lower.specs.Homes.{offset}

-- indices are tested one by one
abbrev pub checked : List ℕ → List ℕ → Result ℕ ℕ
checked dims [] = Ok 0
checked [] (i ∷ is) = Ok 0
checked (d ∷ ds) (i ∷ is) =
    cond (nat_lt i d) (next (checked ds is) (λ o. Ok (i * elements ds + o))) (Err index_out)

pub checked_is : (dims is : List ℕ)
    → checked dims is ≡ cond (is_inside dims (map Some is)) (Ok (offset dims is)) (Err index_out)
checked_is dims [] = refl
checked_is [] (i ∷ is) = refl
checked_is (d ∷ ds) (i ∷ is) =
    ap (λ r. cond (nat_lt i d) (next r (λ o. Ok (i * elements ds + o))) (Err index_out))
    (checked_is ds is) ∙ split (nat_lt i d) (is_inside ds (map Some is))
  where
    split : (b c : Bool) → cond b (next (cond c (Ok (offset ds is)) (Err index_out))
        (λ o. Ok (i * elements ds + o))) (Err index_out)
        ≡ cond (b && c) (Ok (i * elements ds + offset ds is)) (Err index_out)
    split true true = refl
    split true false = refl
    split false c = refl

pub record Within (i d m : ℕ) (r : Result ℕ ℕ) (o : ℕ) : Type 0 where
  pub less : i < d
  pub rest : ℕ
  pub is_rest : r ≡ Ok rest
  pub is : o ≡ i * m + rest

pub within : (i d m o : ℕ) (r : Result ℕ ℕ)
    → cond (nat_lt i d) (next r (λ x. Ok (i * m + x))) (Err index_out) ≡ Ok o → Within i d m r o
within i d m o r e = at (nat_lt i d) r refl refl e
  where
    at : (b : Bool) (x : Result ℕ ℕ) → nat_lt i d ≡ b → r ≡ x
        → cond b (next x (λ y. Ok (i * m + y))) (Err index_out) ≡ Ok o → Within i d m r o
    at true (Ok y) eb ex h =
        record { less = ltb-true i d eb; rest = y; is_rest = ex; is = cc }
    at true (Err y) eb ex h = cc
    at false x eb ex h = cc

-- the part that indices mean lies within the array
pub checked_fits : (dims is : List ℕ) (o : ℕ) → length is ≤ length dims → checked dims is ≡ Ok o
    → o + elements (drop (length is) dims) ≤ elements dims
checked_fits dims [] o le e =
    let z : o ≡ 0 = cc in omega (arith, z)
checked_fits [] (i ∷ is) o le e = absurd (omega (arith, le))
checked_fits (d ∷ ds) (i ∷ is) o le e =
    let w = within i d (elements ds) o (checked ds is) e in
    let h = checked_fits ds is w.rest (omega (arith, le)) w.is_rest in
    let rows : suc i * elements ds ≤ d * elements ds = mul-le-mul_right (elements ds) w.less in
    let more : suc i * elements ds ≡ i * elements ds + elements ds = suc-mul i (elements ds) in
    omega (arith, w.is, h, rows, more)

pub left_is : (dims is : List ℕ) → length is ≤ length dims
    → left_of dims (map Some is) ≡ Some (drop (length is) dims)
left_is dims [] le = refl
left_is [] (i ∷ is) le = absurd (omega (arith, le))
left_is (d ∷ ds) (i ∷ is) le = left_is ds is (omega (arith, le))

map_from : (a o n : ℕ) → map (λ k. a + k) (numbers_from o n) ≡ numbers_from (a + o) n
map_from a o zero = refl
map_from a o (suc n) =
    let e : a + (o + 1) ≡ a + o + 1 = omega arith in
    ap (λ xs. (a + o) ∷ xs) (map_from a (o + 1) n ∙ ap (λ b. numbers_from b n) e)

pub places_are : (dims is : List ℕ) → length is ≤ length dims
    → places_of dims (map Some is)
    ≡ numbers_from (offset dims is) (elements (drop (length is) dims))
places_are dims [] le = refl
places_are [] (i ∷ is) le = absurd (omega (arith, le))
places_are (d ∷ ds) (i ∷ is) le =
    ap (map (λ k. i * elements ds + k)) (places_are ds is (omega (arith, le))) ∙
    map_from (i * elements ds) (offset ds is) (elements (drop (length is) ds))
