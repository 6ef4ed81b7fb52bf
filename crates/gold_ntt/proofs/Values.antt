-- Values of polynomials modulo q.
use Rattle.std.proofs.Common.{◌≡◌, ℕ, suc, ◌+◌, ◌*◌, ◌%◌, ◌^◌, ◌<◌, sym, ◌∙◌, ap, arith, mul_assoc}
use Rattle.std.proofs.Math.Nat.{pow-succ'}
use Rattle.std.proofs.lemmas.Nat.{pow-mod, mul-mod_first, mul-mod_second}
use Rattle.gold_field.proofs.Period.{pow_square}
use Rattle.gold_field.proofs.FieldLaws.{sum_of_rests}
use Rattle.gold_ntt.specs.Polynomial.{sum_to, poly}
use Rattle.gold_ntt.proofs.Sums.{sum_same, sum_mod, sum-scale, sum_pairs}

pub pow_same : (q x y n : ℕ) → x % q ≡ y % q → (x ^ n) % q ≡ (y ^ n) % q
pow_same q x y n e = sym (pow-mod x n q) ∙ ap (λ (z : ℕ). (z ^ n) % q) e ∙ pow-mod y n q

pub times_same : (q a x y : ℕ) → x % q ≡ y % q → (a * x) % q ≡ (a * y) % q
times_same q a x y e =
    sym (mul-mod_second a x q) ∙ ap (λ (z : ℕ). (a * z) % q) e ∙ mul-mod_second a y q

pub same_times : (q a x y : ℕ) → x % q ≡ y % q → (x * a) % q ≡ (y * a) % q
same_times q a x y e =
    sym (mul-mod_first x a q) ∙ ap (λ (z : ℕ). (z * a) % q) e ∙ mul-mod_first y a q

pub plus_same : (q a b x y : ℕ) → a % q ≡ b % q → x % q ≡ y % q → (a + x) % q ≡ (b + y) % q
plus_same q a b x y e h =
    sym (sum_of_rests q a x) ∙ ap (λ (z : ℕ). (z + x % q) % q) e ∙ ap (λ (z : ℕ). (b % q + z) % q) h
    ∙ sum_of_rests q b y

-- at equal points the values are equal
pub poly_point : (q n : ℕ) (c : ℕ → ℕ) (x y : ℕ) → x % q ≡ y % q → poly n c x % q ≡ poly n c y % q
poly_point q n c x y e =
    sum_mod q n (λ i. c i * x ^ i) (λ i. c i * y ^ i)
    (λ i l. times_same q (c i) (x ^ i) (y ^ i) (pow_same q x y i e))

-- with equal coefficients too
pub poly_coefs : (q n : ℕ) (c d : ℕ → ℕ) (x : ℕ) → ((i : ℕ) → i < n → c i % q ≡ d i % q)
    → poly n c x % q ≡ poly n d x % q
poly_coefs q n c d x h =
    sum_mod q n (λ i. c i * x ^ i) (λ i. d i * x ^ i)
    (λ i l. same_times q (x ^ i) (c i) (d i) (h i l))

pub poly-scale : (n s : ℕ) (c : ℕ → ℕ) (x : ℕ) → poly n (λ i. s * c i) x ≡ s * poly n c x
poly-scale n s c x =
    sum_same n (λ i. s * c i * x ^ i) (λ i. s * (c i * x ^ i)) (λ i l. mul_assoc s (c i) (x ^ i))
    ∙ sum-scale n s (λ i. c i * x ^ i)

-- a polynomial by its even and its odd coefficients
pub poly_pairs : (m : ℕ) (c : ℕ → ℕ) (x : ℕ)
    → poly (m + m) c x ≡ poly m (λ i. c (i + i)) (x * x) + x * poly m (λ i. c (suc (i + i))) (x * x)
poly_pairs m c x =
    sum_pairs m (λ i. c i * x ^ i)
    ∙ ap (λ (y : ℕ). y + sum_to m (λ i. c (suc (i + i)) * x ^ suc (i + i)))
    (sum_same m (λ i. c (i + i) * x ^ (i + i)) (λ i. c (i + i) * (x * x) ^ i)
    (λ i l. ap (λ (y : ℕ). c (i + i) * y) (sym (pow_square x i))))
    ∙ ap (λ (y : ℕ). poly m (λ i. c (i + i)) (x * x) + y)
    (sum_same m (λ i. c (suc (i + i)) * x ^ suc (i + i)) (λ i. x * (c (suc (i + i)) * (x * x) ^ i))
    (λ i l. odd_term (c (suc (i + i))) x i)
    ∙ sum-scale m x (λ i. c (suc (i + i)) * (x * x) ^ i))
  where
    odd_term : (a x i : ℕ) → a * x ^ suc (i + i) ≡ x * (a * (x * x) ^ i)
    odd_term a x i =
        let power : x ^ suc (i + i) ≡ x * (x * x) ^ i =
        pow-succ' x (i + i) ∙ ap (λ (y : ℕ). x * y) (sym (pow_square x i)) in
        let y : ℕ = (x * x) ^ i in
        let order : a * (x * y) ≡ x * (a * y) = omega arith in
        ap (λ (z : ℕ). a * z) power ∙ order
