-- Fermat's theorem for any prime, by binomial coefficients: (1 + a) ^ q is 1 + a ^ q modulo q.
use Rattle.std.proofs.Common.{◌≡◌, ◌≢◌, ℕ, zero, suc, ◌+◌, ◌-◌, ◌*◌, ◌/◌, ◌%◌, ◌^◌, ◌<◌, ◌≤◌, inl}
use Rattle.std.proofs.Common.{inr, refl, sym, ◌∙◌, ap, arith, mul_comm, add_comm, pow-suc}
use Rattle.std.proofs.Common.{mod-eq_of_lt}
use Rattle.std.proofs.Math.Nat.{mod-add-mod, add-mod-mod, mul-mod_right, zero-mod, mul-sub}
use Rattle.std.proofs.Math.Nat.{div-add-mod, one-le-pow, pow-zero}
use Rattle.std.proofs.lemmas.Bool.{cases_eq}
use Rattle.gold_field.specs.Prime.{IsPrime}
use Rattle.gold_field.proofs.Euclid.{times_zero, plus_zero, euclid}

-- the binomial coefficient "n over k"
abbrev choose : ℕ → ℕ → ℕ
choose zero zero = 1
choose zero (suc k) = 0
choose (suc n) zero = 1
choose (suc n) (suc k) = choose n k + choose n (suc k)

choose-zero : (n : ℕ) → choose n 0 ≡ 1
choose-zero zero = refl
choose-zero (suc n) = refl

choose_past : (n k : ℕ) → n < k → choose n k ≡ 0
choose_past zero zero h = absurd (omega arith)
choose_past zero (suc k) h = refl
choose_past (suc n) zero h = absurd (omega arith)
choose_past (suc n) (suc k) h =
    omega (arith, choose_past n k (omega arith), choose_past n (suc k) (omega arith))

choose_all : (n : ℕ) → choose n n ≡ 1
choose_all zero = refl
choose_all (suc n) = omega (arith, choose_all n, choose_past n (suc n) (omega arith))

choose-times : (n k : ℕ) → suc k * choose (suc n) (suc k) ≡ suc n * choose n k
choose-times zero zero = refl
choose-times zero (suc k) = omega arith
choose-times (suc n) zero =
    omega (arith, choose-times n zero ∙ ap (λ (y : ℕ). suc n * y) (choose-zero n))
choose-times (suc n) (suc k) = omega (arith, choose-times n k, choose-times n (suc k))

-- the first k + 1 terms of (1 + a) ^ n
abbrev terms : ℕ → ℕ → ℕ → ℕ
terms n a zero = 1
terms n a (suc k) = terms n a k + choose n (suc k) * a ^ suc k

next_term : (s t r c d a x y : ℕ) → s ≡ t + a * r → y ≡ x * a
    → s + (c + d) * y ≡ t + d * y + a * (r + c * x)
next_term s t r c d a x y h e = rw (h, e) (omega arith)

terms-suc : (n a k : ℕ) → terms (suc n) a (suc k) ≡ terms n a (suc k) + a * terms n a k
terms-suc n a zero = grind (arith, choose-zero n, pow-suc a zero, pow-zero a)
terms-suc n a (suc k) =
    next_term (terms (suc n) a (suc k)) (terms n a (suc k)) (terms n a k) (choose n (suc k))
    (choose n (suc (suc k))) a
    (a ^ suc k) (a ^ suc (suc k)) (terms-suc n a k) (pow-suc a (suc k))

terms_all : (n a : ℕ) → terms n a n ≡ (1 + a) ^ n
terms_all zero a = sym (pow-zero (1 + a))
terms_all (suc n) a =
    grind (
      arith,
      terms-suc n a n,
      terms_all n a,
      choose_past n (suc n) (omega arith),
      pow-suc (1 + a) n,
    )

-- a prime divides each of its binomial coefficients but the first and the last
choose_prime : (m k : ℕ) → IsPrime (suc m) → k < m → choose (suc m) (suc k) % suc m ≡ 0
choose_prime m k p h =
    let whole : (suc k * choose (suc m) (suc k)) % suc m ≡ 0 =
    ap (λ (y : ℕ). y % suc m) (choose-times m k) ∙ mul-mod_right (suc m) (choose m k) in
    let self : suc k % suc m ≡ suc k = mod-eq_of_lt {n = suc k} {m = suc m} (omega arith) in
    elim (euclid (suc m) p (suc k) (choose (suc m) (suc k)) whole) [
      | inl is ↦ absurd (omega arith)
      | inr is ↦ is
    ]

terms_prime : (m a : ℕ) → IsPrime (suc m) → (k : ℕ) → k ≤ m → terms (suc m) a k % suc m ≡ 1 % suc m
terms_prime m a p zero h = refl
terms_prime m a p (suc k) h =
    let more : ℕ = choose (suc m) (suc k) * a ^ suc k in
    let none : more % suc m ≡ 0 =
    ap (λ (y : ℕ). y % suc m) (mul_comm (choose (suc m) (suc k)) (a ^ suc k))
    ∙ times_zero (a ^ suc k) (choose (suc m) (suc k)) (suc m) (choose_prime m k p (omega arith)) in
    ap (λ (y : ℕ). y % suc m) (add_comm (terms (suc m) a k) more)
    ∙ plus_zero more (terms (suc m) a k) (suc m) none
    ∙ terms_prime m a p k (omega arith)

frobenius : (m a : ℕ) → IsPrime (suc m) → ((1 + a) ^ suc m) % suc m ≡ (1 + a ^ suc m) % suc m
frobenius m a p =
    let last : choose (suc m) (suc m) * a ^ suc m ≡ a ^ suc m =
    ap (λ (y : ℕ). y * a ^ suc m) (choose_all (suc m)) ∙ omega arith in
    ap (λ (y : ℕ). y % suc m) (sym (terms_all (suc m) a)
    ∙ ap (λ (y : ℕ). terms (suc m) a m + y) last)
    ∙ sym (mod-add-mod (terms (suc m) a m) (suc m) (a ^ suc m))
    ∙ ap (λ (y : ℕ). (y + a ^ suc m) % suc m) (terms_prime m a p m (omega arith))
    ∙ mod-add-mod 1 (suc m) (a ^ suc m)

fermat_power : (m : ℕ) → IsPrime (suc m) → (a : ℕ) → (a ^ suc m) % suc m ≡ a % suc m
fermat_power m p zero = ap (λ (y : ℕ). y % suc m) (pow-suc 0 m ∙ omega arith)
fermat_power m p (suc a) =
    let one : suc a ≡ 1 + a = omega arith in
    ap (λ (y : ℕ). (y ^ suc m) % suc m) one ∙ frobenius m a p
    ∙ sym (add-mod-mod 1 (a ^ suc m) (suc m))
    ∙ ap (λ (y : ℕ). (1 + y) % suc m) (fermat_power m p a) ∙ add-mod-mod 1 a (suc m)
    ∙ ap (λ (y : ℕ). y % suc m) (sym one)

pred_times : (a y : ℕ) → 0 < y → a * (y - 1) + a ≡ y * a
pred_times a zero h = absurd (omega arith)
pred_times a (suc y) h = let less : suc y - 1 ≡ y = omega arith in rw less (omega arith)

-- what changes no remainder is a multiple
pub no_rest : (v a q : ℕ) → (v + a) % q ≡ a % q → v % q ≡ 0
no_rest v a q e =
    let x : ℕ = (v + a) / q in
    let y : ℕ = a / q in
    let first : q * x + (v + a) % q ≡ v + a = div-add-mod (v + a) q in
    let second : q * y + a % q ≡ a = div-add-mod a q in
    let is : v ≡ q * x - q * y = omega arith in
    ap (λ (z : ℕ). z % q) (is ∙ sym (mul-sub q x y)) ∙ mul-mod_right q (x - y)

fermat_at : (m : ℕ) → IsPrime (suc m) → (a : ℕ) → a % suc m ≢ 0 → (a ^ m) % suc m ≡ 1
fermat_at m p a nz =
    let large : 2 ≤ suc m = p.large in
    let pos : 0 < a = elim (cases_eq a 0) [
      | inl is ↦ absurd (nz (ap (λ (y : ℕ). y % suc m) is ∙ zero-mod (suc m)))
      | inr is_not ↦ omega arith
    ] in
    let above : 1 ≤ a ^ m = one-le-pow m a pos in
    let v : ℕ = a ^ m - 1 in
    let parts : a * v + a ≡ a ^ suc m = pred_times a (a ^ m) above ∙ sym (pow-suc a m) in
    let product : (a * v) % suc m ≡ 0 =
    no_rest (a * v) a (suc m) (ap (λ (y : ℕ). y % suc m) parts ∙ fermat_power m p a) in
    let whole : a ^ m ≡ v + 1 = omega arith in
    elim (euclid (suc m) p a v product) [
      | inl is ↦ absurd (nz is)
      | inr is ↦
          ap (λ (y : ℕ). y % suc m) whole ∙ plus_zero v 1 (suc m) is
          ∙ mod-eq_of_lt {n = 1} {m = suc m} (omega arith)
    ]

pub fermat : (q : ℕ) → IsPrime q → (a : ℕ) → a % q ≢ 0 → (a ^ (q - 1)) % q ≡ 1
fermat zero p a nz = let large : 2 ≤ 0 = p.large in absurd (omega arith)
fermat (suc m) p a nz =
    let is : suc m - 1 ≡ m = omega arith in ap (λ (y : ℕ). (a ^ y) % suc m) is ∙ fermat_at m p a nz
