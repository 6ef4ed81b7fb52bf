-- Sums of powers of roots of unity, and division by X ^ n - 1.
use Rattle.std.proofs.Common.{◌≡◌, ◌≢◌, ℕ, zero, suc, ◌+◌, ◌-◌, ◌*◌, ◌/◌, ◌%◌, ◌^◌, ◌<◌, ◌≤◌, inl}
use Rattle.std.proofs.Common.{inr, refl, sym, ◌∙◌, ap, arith, lit<, mod-eq_of_lt, mod-lt}
use Rattle.std.proofs.Common.{div-add-mod', List, length, get_or, cond, ◌==◌, eq-eqb}
use Rattle.std.proofs.Math.Nat.{mod-mod, pow-zero}
use Rattle.std.proofs.lemmas.Nat.{mul-mod_first, mul-mod_second, pow-mod, pow-add, pow_pos}
use Rattle.std.proofs.lemmas.Bool.{cases_lt, cases_eq, lt-ltb, le-ltb, ne_eqb}
use Rattle.std.proofs.lemmas.List.{get_or_past}
use Rattle.gold_field.specs.declared.gold.TheConstants.{P}
use Rattle.gold_field.proofs.Euclid.{times_zero}
use Rattle.gold_field.proofs.FieldLaws.{sum_cancel, sum_of_rests}
use Rattle.gold_field.proofs.Period.{one_pow, pow_swap}
use Rattle.gold_field.proofs.PowerSteps.{pow_pow}
use Rattle.gold_ntt.specs.Polynomial.{sum_to, poly, eval_at, shifted_at, IsDivision}
use Rattle.gold_ntt.specs.Transform.{root_of}
use Rattle.gold_ntt.proofs.Inverse.{powers, powers_zero, powers_one}
use Rattle.gold_ntt.proofs.Interpolation.{equal_values}
use Rattle.gold_ntt.proofs.Products.{poly_past, poly-add}
use Rattle.gold_ntt.proofs.RootLaws.{root_one, root_order}
use Rattle.gold_ntt.proofs.Sums.{sum_to-zero, sum_to-suc, sum_same, sum_mod, sum-scale, sum-swap}
use Rattle.gold_ntt.proofs.Sums.{sum-zero}
use Rattle.gold_ntt.proofs.Values.{poly_point, poly_coefs, plus_same, times_same}

-- a power of a root depends on the exponent modulo the order
root_rest : (e k : ℕ) → e ≤ 32 → (root_of e ^ k) % P ≡ (root_of e ^ (k % 2 ^ e)) % P
root_rest e k l = rest P (root_of e) (2 ^ e) k (lit< tt) (root_one e l)
  where
    rest : (q w n k : ℕ) → 1 < q → (w ^ n) % q ≡ 1 → (w ^ k) % q ≡ (w ^ (k % n)) % q
    rest q w n k large one =
        let t : ℕ = k / n in
        let r : ℕ = k % n in
        let parts : k ≡ n * t + r = let whole : t * n + r ≡ k = div-add-mod' k n in omega arith in
        let unit : ((w ^ n) ^ t) % q ≡ 1 =
        sym (pow-mod (w ^ n) t q) ∙ ap (λ (y : ℕ). (y ^ t) % q) one
        ∙ ap (λ (y : ℕ). y % q) (one_pow t)
        ∙ mod-eq_of_lt {n = 1} {m = q} large in
        let same : 1 * w ^ r ≡ w ^ r = omega arith in
        ap (λ (y : ℕ). y % q) (ap (λ (y : ℕ). w ^ y) parts ∙ pow-add w (n * t) r
        ∙ ap (λ (y : ℕ). y * w ^ r) (sym (pow_pow w n t)))
        ∙ sym (mul-mod_first ((w ^ n) ^ t) (w ^ r) q) ∙ ap (λ (y : ℕ). (y * w ^ r) % q) unit
        ∙ ap (λ (y : ℕ). y % q) same

root_of_one : (e k : ℕ) → e ≤ 32 → ((root_of e ^ k) ^ (2 ^ e)) % P ≡ 1
root_of_one e k l =
    let n : ℕ = 2 ^ e in
    let turned : k * n ≡ n * k = omega arith in
    ap (λ (y : ℕ). y % P) (pow_pow (root_of e) k n ∙ ap (λ (y : ℕ). root_of e ^ y) turned
    ∙ sym (pow_pow (root_of e) n k))
    ∙ sym (pow-mod (root_of e ^ n) k P) ∙ ap (λ (y : ℕ). (y ^ k) % P) (root_one e l)
    ∙ ap (λ (y : ℕ). y % P) (one_pow k)
    ∙ mod-eq_of_lt {n = 1} {m = P} (lit< tt)

-- the powers of a root other than 1 sum to 0
pub powers_vanish : (e k : ℕ) → e ≤ 32 → k % 2 ^ e ≢ 0 → powers (2 ^ e) (root_of e ^ k) % P ≡ 0
powers_vanish e k l other =
    let pos : 0 < 2 ^ e = pow_pos e in
    let low : k % 2 ^ e < 2 ^ e = mod-lt k pos in
    let some : 0 < k % 2 ^ e = omega arith in
    powers_zero (2 ^ e) (root_of e ^ k) (root_of_one e k l)
    (λ one. root_order e l (k % 2 ^ e) some low (sym (root_rest e k l) ∙ one))

-- those of 1 to the order
pub powers_count : (e k : ℕ) → e ≤ 32 → k % 2 ^ e ≡ 0 → powers (2 ^ e) (root_of e ^ k) % P
    ≡ 2 ^ e % P
powers_count e k l none =
    powers_one (2 ^ e) (root_of e ^ k)
    (root_rest e k l ∙ ap (λ (y : ℕ). (root_of e ^ y) % P) none
    ∙ ap (λ (y : ℕ). y % P) (pow-zero (root_of e)))

-- the coefficients of X ^ n * a have at x the value x ^ n times that of a
shifted_value : (n m x : ℕ) (a : List ℕ) → poly (n + m) (shifted_at n a) x
    ≡ x ^ n * poly m (λ i. get_or a i 0) x
shifted_value n zero x a =
    let none : x ^ n * poly 0 (λ i. get_or a i 0) x ≡ 0 =
    ap (λ (y : ℕ). x ^ n * y) (sum_to-zero (λ i. get_or a i 0 * x ^ i)) ∙ omega arith in
    let whole : n + 0 ≡ n = omega arith in
    ap (λ (y : ℕ). poly y (shifted_at n a) x) whole
    ∙ sum_same n (λ k. shifted_at n a k * x ^ k) (λ k. 0)
    (λ k h. ap (λ (y : _). (cond y 0 (get_or a (k - n) 0)) * x ^ k) (lt-ltb k n h) ∙ omega arith)
    ∙ sum-zero n ∙ sym none
shifted_value n (suc m) x a =
    let next : n + suc m ≡ suc (n + m) = omega arith in
    let at : shifted_at n a (n + m) ≡ get_or a m 0 =
    let back : n + m - n ≡ m = omega arith in
    ap (λ (y : _). cond y 0 (get_or a (n + m - n) 0)) (le-ltb (n + m) n (omega arith))
    ∙ ap (λ (y : ℕ). get_or a y 0) back in
    let b : ℕ = get_or a m 0 in
    let last : shifted_at n a (n + m) * x ^ (n + m) ≡ x ^ n * (b * x ^ m) =
    let y : ℕ = x ^ n in
    let z : ℕ = x ^ m in
    let order : b * (y * z) ≡ y * (b * z) = omega arith in
    ap (λ (w : ℕ). w * x ^ (n + m)) at ∙ ap (λ (w : ℕ). b * w) (pow-add x n m) ∙ order in
    let s : ℕ = poly m (λ i. get_or a i 0) x in
    let split : x ^ n * (s + b * x ^ m) ≡ x ^ n * s + x ^ n * (b * x ^ m) = omega arith in
    ap (λ (y : ℕ). poly y (shifted_at n a) x) next
    ∙ sum_to-suc (n + m) (λ k. shifted_at n a k * x ^ k)
    ∙ ap (λ (y : ℕ). y + shifted_at n a (n + m) * x ^ (n + m)) (shifted_value n m x a)
    ∙ ap (λ (y : ℕ). x ^ n * s + y) last
    ∙ sym (ap (λ (y : ℕ). x ^ n * y) (sum_to-suc m (λ i. get_or a i 0 * x ^ i)) ∙ split)

-- f (x) + q (x) is x ^ n * q (x) + r (x)
pub division_value : (n : ℕ) (f q r : List ℕ) (x : ℕ) → IsDivision n f q r
    → (eval_at f x + eval_at q x) % P ≡ (x ^ n * eval_at q x + eval_at r x) % P
division_value n f q r x is =
    let m : ℕ = length f + length q in
    let a : ℕ → ℕ = λ i. get_or f i 0 in
    let b : ℕ → ℕ = λ i. get_or q i 0 in
    let c : ℕ → ℕ = λ i. get_or r i 0 in
    let u : ℕ = poly (length f) a x in
    let v : ℕ = poly (length q) b x in
    let w : ℕ = poly (length r) c x in
    let small : length r ≤ n = is.small in
    sum_of_rests P u v
    ∙ ap (λ (y : ℕ). (y + v) % P) (sym (poly_past f (n + m) x (omega arith)))
    ∙ ap (λ (y : ℕ). (poly (n + m) a x + y) % P) (sym (poly_past q (n + m) x (omega arith)))
    ∙ ap (λ (y : ℕ). y % P) (sym (poly-add (n + m) a b x))
    ∙ poly_coefs P (n + m) (λ i. a i + b i) (λ i. shifted_at n q i + c i) x
    (λ i l. is.coefficient i)
    ∙ ap (λ (y : ℕ). y % P) (poly-add (n + m) (shifted_at n q) c x)
    ∙ ap (λ (y : ℕ). (y + poly (n + m) c x) % P) (shifted_value n m x q
    ∙ ap (λ (y : ℕ). x ^ n * y) (poly_past q m x (omega arith)))
    ∙ ap (λ (y : ℕ). (x ^ n * v + y) % P) (poly_past r (n + m) x (omega arith))
    ∙ plus_same P (x ^ n * v) (x ^ n * (v % P)) w (w % P) (sym (mul-mod_second (x ^ n) v P))
    (sym (mod-mod w P))

-- at the roots of order n, f has the values of the remainder
pub root_value : (e : ℕ) (f q r : List ℕ) (j : ℕ) → e ≤ 32 → IsDivision (2 ^ e) f q r
    → eval_at f (root_of e ^ j % P) ≡ eval_at r (root_of e ^ j % P)
root_value e f q r j l is =
    let n : ℕ = 2 ^ e in
    let x : ℕ = root_of e ^ j % P in
    let unit : (x ^ n) % P ≡ 1 = pow-mod (root_of e ^ j) n P ∙ root_of_one e j l in
    let g : ℕ = eval_at q x in
    let same : 1 * g ≡ g = omega arith in
    let left : (g + eval_at f x) % P ≡ (g + eval_at r x) % P =
    let turned : g + eval_at f x ≡ eval_at f x + g = omega arith in
    ap (λ (y : ℕ). y % P) turned ∙ division_value n f q r x is
    ∙ plus_same P (x ^ n * g) g (eval_at r x) (eval_at r x)
    (sym (mul-mod_first (x ^ n) g P) ∙ ap (λ (y : ℕ). (y * g) % P) unit
    ∙ ap (λ (y : ℕ). y % P) same) refl in
    sym (mod-mod (poly (length f) (λ i. get_or f i 0) x) P)
    ∙ sum_cancel P g (eval_at f x) (eval_at r x) (lit< tt) left
    ∙ mod-mod (poly (length r) (λ i. get_or r i 0) x) P

-- so division leaves no remainder exactly where f is 0 at the roots
pub division_exact : (e : ℕ) (f q r : List ℕ) → e ≤ 32 → IsDivision (2 ^ e) f q r
    → ((j : ℕ) → j < 2 ^ e → eval_at f (root_of e ^ j % P) ≡ 0) → (k : ℕ) → get_or r k 0 % P ≡ 0
division_exact e f q r l is zeros k =
    elim (cases_lt k (2 ^ e)) [
      | inr past ↦ let small : length r ≤ 2 ^ e =
          is.small in ap (λ (y : ℕ). y % P) (get_or_past r k 0 (omega arith))
      | inl low ↦ equal_values e l (λ i. get_or r i 0) (λ i. 0) values k low
    ]
  where
    values : (j : ℕ) → j < 2 ^ e → poly (2 ^ e) (λ i. get_or r i 0) (root_of e ^ j) % P
        ≡ poly (2 ^ e) (λ i. 0) (root_of e ^ j) % P
    values j h =
        let x : ℕ = root_of e ^ j in
        let nothing : poly (2 ^ e) (λ i. 0) x ≡ 0 =
        sum_same (2 ^ e) (λ i. 0 * x ^ i) (λ i. 0) (λ i l. omega arith) ∙ sum-zero (2 ^ e) in
        ap (λ (y : ℕ). y % P) (poly_past r (2 ^ e) x is.small)
        ∙ poly_point P (length r) (λ i. get_or r i 0) x (x % P) (sym (mod-mod x P))
        ∙ sym (root_value e f q r j l is) ∙ zeros j h ∙ sym (ap (λ (y : ℕ). y % P) nothing)

pub division_zero : (e : ℕ) (f q r : List ℕ) → e ≤ 32 → IsDivision (2 ^ e) f q r
    → ((k : ℕ) → get_or r k 0 % P ≡ 0) → (j : ℕ) → eval_at f (root_of e ^ j % P) ≡ 0
division_zero e f q r l is none j =
    let x : ℕ = root_of e ^ j % P in
    let n : ℕ = length r in
    root_value e f q r j l is
    ∙ poly_coefs P n (λ i. get_or r i 0) (λ i. 0) x (λ i h. none i)
    ∙ ap (λ (y : ℕ). y % P) (sum_same n (λ i. 0 * x ^ i) (λ i. 0) (λ i h. omega arith) ∙ sum-zero n)

-- coefficient k times the powers of the k-th power of the root
column_sum : (e k b : ℕ) → e ≤ 32 → sum_to (2 ^ e) (λ j. b * (root_of e ^ k) ^ j) % P
    ≡ (2 ^ e * cond (k % 2 ^ e == 0) b 0) % P
column_sum e k b l =
    let n : ℕ = 2 ^ e in
    ap (λ (y : ℕ). y % P) (sum-scale n b (λ j. (root_of e ^ k) ^ j))
    ∙ elim (cases_eq (k % n) 0) [
      | inl is ↦
          let order : b * n ≡ n * b = omega arith in
          times_same P b (powers n (root_of e ^ k)) n (powers_count e k l is)
          ∙ ap (λ (y : ℕ). y % P) order
          ∙ sym (ap (λ (y : _). (n * cond y b 0) % P) (eq-eqb (k % n) 0 is))
      | inr is_not ↦
          let none : n * 0 ≡ 0 = omega arith in
          times_zero b (powers n (root_of e ^ k)) P (powers_vanish e k l is_not)
          ∙ sym (ap (λ (y : _). (n * cond y b 0) % P) (ne_eqb (k % n) 0 is_not)
          ∙ ap (λ (y : ℕ). y % P) none)
    ]

pub value_sum : (e : ℕ) (a : List ℕ) → e ≤ 32
    → sum_to (2 ^ e) (λ j. eval_at a (root_of e ^ j % P)) % P
    ≡ (2 ^ e * sum_to (length a) (λ k. cond (k % 2 ^ e == 0) (get_or a k 0) 0)) % P
value_sum e a l =
    let n : ℕ = 2 ^ e in
    let m : ℕ = length a in
    let w : ℕ = root_of e in
    let c : ℕ → ℕ = λ k. get_or a k 0 in
    sum_mod P n (λ j. eval_at a (w ^ j % P)) (λ j. sum_to m (λ k. c k * (w ^ k) ^ j))
    (λ j h. place j)
    ∙ ap (λ (y : ℕ). y % P) (sum-swap n m (λ k j. c k * (w ^ k) ^ j))
    ∙ sum_mod P m (λ k. sum_to n (λ j. c k * (w ^ k) ^ j)) (λ k. n * cond (k % n == 0) (c k) 0)
    (λ k h. column_sum e k (c k) l)
    ∙ ap (λ (y : ℕ). y % P) (sum-scale m n (λ k. cond (k % n == 0) (c k) 0))
  where
    place : (j : ℕ) → eval_at a (root_of e ^ j % P) % P
        ≡ sum_to (length a) (λ k. get_or a k 0 * (root_of e ^ k) ^ j) % P
    place j =
        let w : ℕ = root_of e in
        let c : ℕ → ℕ = λ k. get_or a k 0 in
        mod-mod (poly (length a) c (w ^ j % P)) P
        ∙ poly_point P (length a) c (w ^ j % P) (w ^ j) (mod-mod (w ^ j) P)
        ∙ ap (λ (y : ℕ). y % P)
        (sum_same (length a) (λ k. c k * (w ^ j) ^ k) (λ k. c k * (w ^ k) ^ j)
        (λ k h. ap (λ (y : ℕ). c k * y) (pow_swap w j k)))
