-- Orthogonality of the powers of a root of unity, and what follows: the inverse transform.
use Rattle.std.proofs.Common.{◌≡◌, ◌≢◌, ℕ, zero, suc, ◌+◌, ◌-◌, ◌*◌, ◌%◌, ◌^◌, ◌<◌, ◌≤◌, inl, inr}
use Rattle.std.proofs.Common.{refl, sym, ◌∙◌, ap, arith, lit<, mul_assoc, mul_comm, mod-eq_of_lt}
use Rattle.std.proofs.Math.Nat.{pow-succ', pow-zero}
use Rattle.std.proofs.lemmas.Nat.{pow-mod, mul-mod, mul-mod_first, mul-mod_second, mul-pow, pow-add}
use Rattle.std.proofs.lemmas.Bool.{cases_lt, cases_eq}
use Rattle.gold_field.specs.declared.gold.TheConstants.{P}
use Rattle.gold_field.proofs.Period.{one_pow, pow_swap}
use Rattle.gold_field.proofs.Euclid.{times_zero}
use Rattle.gold_field.proofs.FieldLaws.{sum_cancel, product_cancel}
use Rattle.gold_ntt.specs.Polynomial.{sum_to, poly}
use Rattle.gold_ntt.proofs.Sums.{sum_to-suc, sum_to-zero, sum_same, sum_mod, sum-scale, sum-swap}
use Rattle.gold_ntt.proofs.Sums.{sum_one}
use Rattle.gold_ntt.proofs.Values.{poly_coefs, poly-scale, plus_same, times_same, same_times}
use Rattle.gold_ntt.proofs.Values.{pow_same}

-- x ^ 0 + .. + x ^ (n - 1)
abbrev pub powers : ℕ → ℕ → ℕ
powers n x = sum_to n (λ j. x ^ j)

powers-times : (n x : ℕ) → x * powers n x + 1 ≡ powers n x + x ^ n
powers-times zero x =
    let none : x * powers 0 x ≡ 0 =
    ap (λ (y : ℕ). x * y) (sum_to-zero (λ j. x ^ j)) ∙ omega arith in
    omega (arith, none, sum_to-zero (λ j. x ^ j), pow-zero x)
powers-times (suc n) x =
    let more : powers (suc n) x ≡ powers n x + x ^ n = sum_to-suc n (λ j. x ^ j) in
    grown x (powers n x) (powers (suc n) x) (x ^ n) (x ^ suc n) (powers-times n x) more
    (pow-succ' x n)
  where
    grown : (x s t y z : ℕ) → x * s + 1 ≡ s + y → t ≡ s + y → z ≡ x * y → x * t + 1 ≡ t + z
    grown x s t y z e h k = rw (h, k) (omega (arith, e))

-- the sum of the powers of a root of unity other than 1 is 0
pub powers_zero : (n x : ℕ) → (x ^ n) % P ≡ 1 → x % P ≢ 1 → powers n x % P ≡ 0
powers_zero n x one other =
    let s : ℕ = powers n x in
    let turned : (1 + x * s) % P ≡ (1 + s * 1) % P =
    let order : 1 + x * s ≡ s + x ^ n = omega (arith, powers-times n x) in
    let last : s + 1 ≡ 1 + s * 1 = omega arith in
    ap (λ (y : ℕ). y % P) order
    ∙ plus_same P s s (x ^ n) 1 refl (one ∙ sym (mod-eq_of_lt {n = 1} {m = P} (lit< tt)))
    ∙ ap (λ (y : ℕ). y % P) last in
    let same : (s * x) % P ≡ (s * 1) % P =
    ap (λ (y : ℕ). y % P) (mul_comm s x) ∙ sum_cancel P 1 (x * s) (s * 1) (lit< tt) turned in
    elim (cases_eq (s % P) 0) [
      | inl is ↦ is
      | inr unit ↦
          absurd (other (product_cancel s x 1 unit same ∙ mod-eq_of_lt {n = 1} {m = P} (lit< tt)))
    ]

-- w has order n, and v is its inverse
pub record IsRoot (n w v : ℕ) : Type 0 where
  pub inverse : (w * v) % P ≡ 1
  pub one : (w ^ n) % P ≡ 1
  pub order : (k : ℕ) → 0 < k → k < n → (w ^ k) % P ≢ 1

-- powers of inverses cancel
pub both : (q w v k : ℕ) → 1 < q → (w * v) % q ≡ 1 → (w ^ k * v ^ k) % q ≡ 1
both q w v k large e =
    ap (λ (y : ℕ). y % q) (sym (mul-pow w v k)) ∙ sym (pow-mod (w * v) k q)
    ∙ ap (λ (y : ℕ). (y ^ k) % q) e
    ∙ ap (λ (y : ℕ). y % q) (one_pow k) ∙ mod-eq_of_lt {n = 1} {m = q} large

cancel : (q w v i k : ℕ) → 1 < q → (w * v) % q ≡ 1 → k ≤ i → (w ^ i * v ^ k) % q ≡ (w ^ (i - k)) % q
cancel q w v i k large e l =
    let parts : i ≡ i - k + k = omega arith in
    let a : ℕ = w ^ (i - k) in
    let b : ℕ = w ^ k in
    let split : w ^ i ≡ a * b = ap (λ (y : ℕ). w ^ y) parts ∙ pow-add w (i - k) k in
    let same : a * 1 ≡ a = omega arith in
    ap (λ (y : ℕ). (y * v ^ k) % q) split ∙ ap (λ (y : ℕ). y % q) (mul_assoc a b (v ^ k))
    ∙ sym (mul-mod_second a (b * v ^ k) q) ∙ ap (λ (y : ℕ). (a * y) % q) (both q w v k large e)
    ∙ ap (λ (y : ℕ). y % q) same

inverse_one : (q w v n : ℕ) → 1 < q → (w * v) % q ≡ 1 → (w ^ n) % q ≡ 1 → (v ^ n) % q ≡ 1
inverse_one q w v n large e one =
    let same : 1 * v ^ n ≡ v ^ n = omega arith in
    ap (λ (y : ℕ). y % q) (sym same) ∙ sym (ap (λ (y : ℕ). (y * v ^ n) % q) one)
    ∙ mul-mod_first (w ^ n) (v ^ n) q
    ∙ both q w v n large e

pub inverse_root : (n w v : ℕ) → IsRoot n w v → IsRoot n v w
inverse_root n w v root =
    let turned : (v * w) % P ≡ 1 = ap (λ (y : ℕ). y % P) (mul_comm v w) ∙ root.inverse in
    record {
      inverse = turned;
      one = inverse_one P w v n (lit< tt) root.inverse root.one;
      order = λ k pos low e. root.order k pos low (inverse_one P v w k (lit< tt) turned e);
    }

-- the powers of w ^ i * v ^ k sum to 0 where i and k differ
other_order : (n w v i k : ℕ) → IsRoot n w v → i < n → k < n → i ≢ k → (w ^ i * v ^ k) % P ≢ 1
other_order n w v i k root li lk ne e =
    elim (cases_lt k i) [
      | inl above ↦
          root.order (i - k) (omega arith) (omega arith)
          (sym (cancel P w v i k (lit< tt) root.inverse (omega arith)) ∙ e)
      | inr below ↦
          let back : IsRoot n v w = inverse_root n w v root in
          back.order (k - i) (omega arith) (omega arith)
          (sym (cancel P v w k i (lit< tt) back.inverse (omega arith))
          ∙ ap (λ (y : ℕ). y % P) (mul_comm (v ^ k) (w ^ i)) ∙ e)
    ]

other_one : (n w v i k : ℕ) → IsRoot n w v → ((w ^ i * v ^ k) ^ n) % P ≡ 1
other_one n w v i k root =
    let first : ((w ^ i) ^ n) % P ≡ 1 = power_one w n i root.one in
    let second : ((v ^ k) ^ n) % P ≡ 1 =
    power_one v n k (inverse_one P w v n (lit< tt) root.inverse root.one) in
    ap (λ (y : ℕ). y % P) (mul-pow (w ^ i) (v ^ k) n) ∙ mul-mod ((w ^ i) ^ n) ((v ^ k) ^ n) P
    ∙ ap (λ (y : ℕ). (y * (((v ^ k) ^ n) % P)) % P) first ∙ ap (λ (y : ℕ). (1 * y) % P) second
  where
    power_one : (x n i : ℕ) → (x ^ n) % P ≡ 1 → ((x ^ i) ^ n) % P ≡ 1
    power_one x n i e =
        ap (λ (y : ℕ). y % P) (pow_swap x i n) ∙ sym (pow-mod (x ^ n) i P)
        ∙ ap (λ (y : ℕ). (y ^ i) % P) e
        ∙ ap (λ (y : ℕ). y % P) (one_pow i) ∙ mod-eq_of_lt {n = 1} {m = P} (lit< tt)

orthogonal : (n w v : ℕ) → IsRoot n w v → (i k : ℕ) → i < n → k < n → i ≢ k
    → powers n (w ^ i * v ^ k) % P ≡ 0
orthogonal n w v root i k li lk ne =
    powers_zero n (w ^ i * v ^ k) (other_one n w v i k root) (other_order n w v i k root li lk ne)

-- the powers of 1 sum to their number
pub powers_one : (n x : ℕ) → x % P ≡ 1 → powers n x % P ≡ n % P
powers_one n x one =
    sum_mod P n (λ j. x ^ j) (λ j. 1)
    (λ j l. pow_same P x 1 j (one ∙ sym (mod-eq_of_lt {n = 1} {m = P} (lit< tt)))
    ∙ ap (λ (y : ℕ). y % P) (one_pow j))
    ∙ ap (λ (y : ℕ). y % P) (ones n)
  where
    ones : (n : ℕ) → sum_to n (λ j. 1) ≡ n
    ones zero = sum_to-zero (λ j. 1)
    ones (suc n) = omega (arith, sum_to-suc n (λ j. 1), ones n)

-- the values at the powers of w, evaluated at the powers of v, are n times the list
pub undoes : (n w v : ℕ) → IsRoot n w v → (a : ℕ → ℕ) (k : ℕ) → k < n
    → poly n (λ j. poly n a (w ^ j)) (v ^ k) % P ≡ (a k * n) % P
undoes n w v root a k low =
    ap (λ (y : ℕ). y % P)
    (sum_same n (λ j. poly n a (w ^ j) * (v ^ k) ^ j)
    (λ j. sum_to n (λ i. a i * (w ^ i * v ^ k) ^ j)) (λ j l. inside j))
    ∙ ap (λ (y : ℕ). y % P) (sum-swap n n (λ i j. a i * (w ^ i * v ^ k) ^ j))
    ∙ ap (λ (y : ℕ). y % P)
    (sum_same n (λ i. sum_to n (λ j. a i * (w ^ i * v ^ k) ^ j))
    (λ i. a i * powers n (w ^ i * v ^ k)) (λ i l. sum-scale n (a i) (λ j. (w ^ i * v ^ k) ^ j)))
    ∙ sum_one n P (λ i. a i * powers n (w ^ i * v ^ k)) k low
    (λ i l ne. times_zero (a i) (powers n (w ^ i * v ^ k)) P (orthogonal n w v root i k l low ne))
    ∙ times_same P (a k) (powers n (w ^ k * v ^ k)) n
    (powers_one n (w ^ k * v ^ k) (both P w v k (lit< tt) root.inverse))
  where
    term : (b w v i j k : ℕ) → (v ^ k) ^ j * (b * (w ^ j) ^ i) ≡ b * (w ^ i * v ^ k) ^ j
    term b w v i j k =
        let x : ℕ = (v ^ k) ^ j in
        let y : ℕ = (w ^ i) ^ j in
        let order : x * (b * y) ≡ b * (y * x) = omega arith in
        ap (λ (z : ℕ). x * (b * z)) (pow_swap w j i) ∙ order
        ∙ ap (λ (z : ℕ). b * z) (sym (mul-pow (w ^ i) (v ^ k) j))

    inside : (j : ℕ) → poly n a (w ^ j) * (v ^ k) ^ j ≡ sum_to n (λ i. a i * (w ^ i * v ^ k) ^ j)
    inside j =
        mul_comm (poly n a (w ^ j)) ((v ^ k) ^ j)
        ∙ sym (sum-scale n ((v ^ k) ^ j) (λ i. a i * (w ^ j) ^ i))
        ∙ sum_same n (λ i. (v ^ k) ^ j * (a i * (w ^ j) ^ i)) (λ i. a i * (w ^ i * v ^ k) ^ j)
        (λ i l. term (a i) w v i j k)

-- b is the scaled transform, at v, of a: then a is the transform of b, at w
pub undone : (n w v s : ℕ) → IsRoot n w v → (s * n) % P ≡ 1 → (a b : ℕ → ℕ)
    → ((k : ℕ) → k < n → b k % P ≡ (poly n a (v ^ k) * s) % P)
    → (j : ℕ) → j < n → a j % P ≡ poly n b (w ^ j) % P
undone n w v s root unit a b is j low =
    let back : IsRoot n v w = inverse_root n w v root in
    sym
    (poly_coefs P n b (λ k. s * poly n a (v ^ k)) (w ^ j)
    (λ k l. is k l ∙ ap (λ (y : ℕ). y % P) (mul_comm (poly n a (v ^ k)) s))
    ∙ ap (λ (y : ℕ). y % P) (poly-scale n s (λ k. poly n a (v ^ k)) (w ^ j))
    ∙ times_same P s (poly n (λ k. poly n a (v ^ k)) (w ^ j)) (a j * n) (undoes n v w back a j low)
    ∙ scaled P s n (a j) unit)
  where
    scaled : (q s n x : ℕ) → (s * n) % q ≡ 1 → (s * (x * n)) % q ≡ x % q
    scaled q s n x e =
        let order : s * (x * n) ≡ s * n * x = omega arith in
        let one : 1 * x ≡ x = omega arith in
        ap (λ (y : ℕ). y % q) order ∙ sym (mul-mod_first (s * n) x q)
        ∙ ap (λ (y : ℕ). (y * x) % q) e ∙ ap (λ (y : ℕ). y % q) one

-- a is the transform, at w, of d: then d is the scaled transform of a, at v
pub recovered : (n w v s : ℕ) → IsRoot n w v → (s * n) % P ≡ 1 → (a d : ℕ → ℕ)
    → ((j : ℕ) → j < n → a j % P ≡ poly n d (w ^ j) % P)
    → (k : ℕ) → k < n → (poly n a (v ^ k) * s) % P ≡ d k % P
recovered n w v s root unit a d is k low =
    same_times P s (poly n a (v ^ k)) (d k * n) (poly_coefs P n a (λ j. poly n d (w ^ j)) (v ^ k) is
    ∙ undoes n w v root d k low)
    ∙ scaled P s n (d k) unit
  where
    scaled : (q s n x : ℕ) → (s * n) % q ≡ 1 → (x * n * s) % q ≡ x % q
    scaled q s n x e =
        let order : x * n * s ≡ s * n * x = omega arith in
        let one : 1 * x ≡ x = omega arith in
        ap (λ (y : ℕ). y % q) order ∙ sym (mul-mod_first (s * n) x q)
        ∙ ap (λ (y : ℕ). (y * x) % q) e ∙ ap (λ (y : ℕ). y % q) one
