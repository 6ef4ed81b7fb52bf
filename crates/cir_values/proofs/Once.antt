-- A place in row order has its indices once.
use Rattle.std.proofs.Common.{◌≡◌, ℕ, ◌+◌, ◌*◌, ◌/◌, ◌%◌, ◌<◌, ◌≤◌, Bool, true, false, cond, List}
use Rattle.std.proofs.Common.{[], ◌∷◌, Option, Some, None, refl, sym, ap, ◌∙◌, arith}
use Rattle.std.specs.Prelude.{nat_lt}
use Rattle.std.proofs.Math.Nat.{mul-le-mul_right}
use Rattle.std.proofs.lemmas.Bool.{ltb-true}
use Rattle.std.proofs.lemmas.Nat.{div-mul-add, mod-mul-add}
use Rattle.cir_values.specs.Places.{elements, counted_on, place_of}

counted_parts : (n : ℕ) (o : Option ℕ) (p : ℕ) → counted_on n o ≡ Some p → (m : ℕ) × (o ≡ Some m)
    × (p ≡ n + m)
counted_parts n None p e = cc
counted_parts n (Some m) p e = (m, refl, cc)

record Opened (d i : ℕ) (ds index : List ℕ) (p : ℕ) : Type 0 where
  lt : i < d
  last : ℕ
  at : place_of ds index ≡ Some last
  same : p ≡ i * elements ds + last

opened_by : (b : Bool) (d i : ℕ) (ds index : List ℕ) (p : ℕ) → nat_lt i d ≡ b
    → cond b (counted_on (i * elements ds) (place_of ds index)) None ≡ Some p
    → Opened d i ds index p
opened_by true d i ds index p h e =
    let c = counted_parts (i * elements ds) (place_of ds index) p e in
    record { lt = ltb-true i d h; last = c.0; at = c.1; same = c.2 }
opened_by false d i ds index p h e = cc

opened : (d i : ℕ) (ds index : List ℕ) (p : ℕ) → place_of (d ∷ ds) (i ∷ index) ≡ Some p
    → Opened d i ds index p
opened d i ds index p e = opened_by (nat_lt i d) d i ds index p refl e

below : (ds index : List ℕ) (p : ℕ) → place_of ds index ≡ Some p → p < elements ds
below [] [] p e = let z : 0 ≡ p = cc in omega (arith, z)
below [] (i ∷ index) p e = cc
below (d ∷ ds) [] p e = cc
below (d ∷ ds) (i ∷ index) p e =
    let o = opened d i ds index p e in
    let rows : (i + 1) * elements ds ≤ d * elements ds =
    mul-le-mul_right (elements ds) (omega (arith, o.lt)) in
    omega (arith, o.same, below ds index o.last o.at, rows)

same_row : (i j e m n : ℕ) → m < e → n < e → i * e + m ≡ j * e + n → (i ≡ j) × (m ≡ n)
same_row i j e m n h k same =
    let last : m ≡ n =
    sym (mod-mul-add i e m h) ∙ ap (λ (x : ℕ). x % e) same ∙ mod-mul-add j e n k in
    (sym (div-mul-add i e m h) ∙ ap (λ (x : ℕ). x / e) same ∙ div-mul-add j e n k, last)

pub once : (ds a b : List ℕ) (p : ℕ) → place_of ds a ≡ Some p → place_of ds b ≡ Some p → a ≡ b
once [] [] [] p e f = refl
once [] [] (j ∷ b) p e f = cc
once [] (i ∷ a) b p e f = cc
once (d ∷ ds) [] b p e f = cc
once (d ∷ ds) (i ∷ a) [] p e f = cc
once (d ∷ ds) (i ∷ a) (j ∷ b) p e f =
    let x = opened d i ds a p e in
    let y = opened d j ds b p f in
    let r = same_row i j (elements ds) x.last y.last (below ds a x.last x.at)
    (below ds b y.last y.at) (sym x.same ∙ y.same) in
    let rest : a ≡ b = once ds a b x.last x.at (y.at ∙ ap Some (sym r.1)) in
    ap (λ n. n ∷ a) r.0 ∙ ap (λ l. j ∷ l) rest
