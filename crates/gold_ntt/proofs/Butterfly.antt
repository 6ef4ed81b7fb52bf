-- One level of the transform: from the values of the even and the odd coefficients to the values of
-- all.
use Rattle.std.proofs.Common.{◌≡◌, ℕ, zero, suc, ◌+◌, ◌-◌, ◌*◌, ◌%◌, ◌^◌, ◌<◌, refl, sym, ◌∙◌, ap}
use Rattle.std.proofs.Common.{arith, mod-eq_of_lt, mul_assoc}
use Rattle.std.proofs.Math.Nat.{mod-mod, mul-mod_right, mul-add-mod_self_right}
use Rattle.std.proofs.lemmas.Nat.{pow-mod, mul-mod, mul-mod_first, mul-pow, pow-add}
use Rattle.gold_field.proofs.FieldLaws.{sum_cancel, opposite}
use Rattle.gold_ntt.specs.Polynomial.{poly}
use Rattle.gold_ntt.proofs.Values.{poly_point, poly_pairs, plus_same, times_same, same_times}

square_lem : (q m : ℕ) → q ≡ m + 2 → (q - 1) * (q - 1) ≡ m * q + 1
square_lem q m e = let less : q - 1 ≡ m + 1 = omega arith in rw (less, e) (omega arith)

-- the square of -1 is 1
pub minus_one_square : (q x : ℕ) → 2 < q → x % q ≡ q - 1 → (x * x) % q ≡ 1
minus_one_square q x l e =
    mul-mod x x q ∙ ap (λ (y : ℕ). (y * y) % q) e
    ∙ ap (λ (y : ℕ). y % q) (square_lem q (q - 2) (omega arith))
    ∙ mul-add-mod_self_right (q - 2) q 1 ∙ mod-eq_of_lt {n = 1} {m = q} (omega arith)

grown : (q y : ℕ) → 0 < q → y + (q - 1) * y ≡ q * y
grown zero y pos = absurd (omega arith)
grown (suc q) y pos = let less : suc q - 1 ≡ q = omega arith in rw less (omega arith)

-- q - y is -1 times y
pub negative : (q y z : ℕ) → 0 < q → z % q ≡ ((q - 1) * y) % q → (q - y % q) % q ≡ z % q
negative q y z pos e = sum_cancel q y (q - y % q) z pos (opposite q y pos ∙ sym none)
  where
    none : (y + z) % q ≡ 0
    none =
        let whole : y + (q - 1) * y ≡ q * y = grown q y pos in
        plus_same q y y z ((q - 1) * y) refl e ∙ ap (λ (w : ℕ). w % q) whole ∙ mul-mod_right q y

-- the square of w ^ j, from the square of w
square_power : (q w s j : ℕ) → s ≡ (w * w) % q → (s ^ j) % q ≡ (w ^ j * w ^ j) % q
square_power q w s j is =
    ap (λ (y : ℕ). (y ^ j) % q) is ∙ pow-mod (w * w) j q ∙ ap (λ (y : ℕ). y % q) (mul-pow w w j)

pub low_place : (q m w s j e o r : ℕ) (c : ℕ → ℕ) → s ≡ (w * w) % q
    → e % q ≡ poly m (λ i. c (i + i)) (s ^ j) % q
    → o % q ≡ poly m (λ i. c (suc (i + i))) (s ^ j) % q
    → r ≡ (e + (w ^ j * o) % q) % q → r ≡ poly (m + m) c (w ^ j) % q
low_place q m w s j e o r c square even odd is =
    let x : ℕ = w ^ j in
    let point : (s ^ j) % q ≡ (x * x) % q = square_power q w s j square in
    let first : e % q ≡ poly m (λ i. c (i + i)) (x * x) % q =
    even ∙ poly_point q m (λ i. c (i + i)) (s ^ j) (x * x) point in
    let second : o % q ≡ poly m (λ i. c (suc (i + i))) (x * x) % q =
    odd ∙ poly_point q m (λ i. c (suc (i + i))) (s ^ j) (x * x) point in
    is ∙ plus_same q e e ((x * o) % q) (x * o) refl (mod-mod (x * o) q)
    ∙ plus_same q e (poly m (λ i. c (i + i)) (x * x)) (x * o)
    (x * poly m (λ i. c (suc (i + i))) (x * x)) first
    (times_same q x o (poly m (λ i. c (suc (i + i))) (x * x)) second)
    ∙ ap (λ (y : ℕ). y % q) (sym (poly_pairs m c x))

pub high_place : (q m w s j e o r : ℕ) (c : ℕ → ℕ) → 2 < q → (w ^ m) % q ≡ q - 1 → s ≡ (w * w) % q
    → e % q ≡ poly m (λ i. c (i + i)) (s ^ j) % q
    → o % q ≡ poly m (λ i. c (suc (i + i))) (s ^ j) % q
    → r ≡ (e + (q - (w ^ j * o) % q)) % q → r ≡ poly (m + m) c (w ^ (m + j)) % q
high_place q m w s j e o r c large half square even odd is =
    let t : ℕ = w ^ j in
    let x : ℕ = w ^ (m + j) in
    let u : ℕ = w ^ m in
    let parts : x ≡ u * t = pow-add w m j in
    let turn : x % q ≡ ((q - 1) * t) % q =
    ap (λ (y : ℕ). y % q) parts ∙ sym (mul-mod_first u t q) ∙ ap (λ (y : ℕ). (y * t) % q) half in
    let order : u * t * (u * t) ≡ u * u * (t * t) = omega arith in
    let one : 1 * (t * t) ≡ t * t = omega arith in
    let point : (s ^ j) % q ≡ (x * x) % q =
    square_power q w s j square
    ∙ sym
    (ap (λ (y : ℕ). (y * y) % q) parts ∙ ap (λ (y : ℕ). y % q) order
    ∙ sym (mul-mod_first (u * u) (t * t) q)
    ∙ ap (λ (y : ℕ). (y * (t * t)) % q) (minus_one_square q u large half)
    ∙ ap (λ (y : ℕ). y % q) one) in
    let first : e % q ≡ poly m (λ i. c (i + i)) (x * x) % q =
    even ∙ poly_point q m (λ i. c (i + i)) (s ^ j) (x * x) point in
    let second : o % q ≡ poly m (λ i. c (suc (i + i))) (x * x) % q =
    odd ∙ poly_point q m (λ i. c (suc (i + i))) (s ^ j) (x * x) point in
    let minus : (q - (t * o) % q) % q ≡ (x * o) % q =
    negative q (t * o) (x * o) (omega arith)
    (same_times q o x ((q - 1) * t) turn ∙ ap (λ (y : ℕ). y % q) (mul_assoc (q - 1) t o)) in
    is ∙ plus_same q e e (q - (t * o) % q) (x * o) refl minus
    ∙ plus_same q e (poly m (λ i. c (i + i)) (x * x)) (x * o)
    (x * poly m (λ i. c (suc (i + i))) (x * x)) first
    (times_same q x o (poly m (λ i. c (suc (i + i))) (x * x)) second)
    ∙ ap (λ (y : ℕ). y % q) (sym (poly_pairs m c x))

-- a power of the square
pub squared_half : (q w s k : ℕ) → s ≡ (w * w) % q → (s ^ (2 ^ k)) % q ≡ (w ^ (2 ^ k + 2 ^ k)) % q
squared_half q w s k is =
    square_power q w s (2 ^ k) is ∙ ap (λ (y : ℕ). y % q) (sym (pow-add w (2 ^ k) (2 ^ k)))
