-- The order P of the field is prime, and what follows: no zero divisors, Fermat's theorem,
-- inverses.
use Rattle.std.proofs.Common.{◌≡◌, ◌≢◌, ℕ, suc, ◌+◌, ◌-◌, ◌*◌, ◌/◌, ◌%◌, ◌^◌, ◌<◌, ◌≤◌, ◌⊎◌, refl}
use Rattle.std.proofs.Common.{sym, ◌∙◌, ap, arith, mod-eq_of_lt, lit<, lit≤, div-add-mod'}
use Rattle.std.proofs.Math.Nat.{pow-succ', two-pow-succ}
use Rattle.std.proofs.lemmas.Nat.{mul-mod_second, mul-mod_first, pow-mod}
use Rattle.gold_field.specs.declared.gold.TheConstants.{P}
use Rattle.gold_field.specs.Powers.{squared}
use Rattle.gold_field.specs.Prime.{IsPrime}
use Rattle.gold_field.proofs.Binomial.{fermat}
use Rattle.gold_field.proofs.Euclid.{euclid}
use Rattle.gold_field.proofs.Period.{pow_square, prime_by}

-- 7 ^ (2 ^ 32 - 1), squared 31 times, is -1
root_test : squared P 31 1753635133440165772 ≡ P - 1
root_test = refl

pub p_prime : IsPrime P
p_prime = prime_by P 31 1753635133440165772 (lit≤ tt) (lit< tt) refl root_test

-- a product is 0 only where a factor is
pub p_euclid : (a b : ℕ) → (a * b) % P ≡ 0 → (a % P ≡ 0) ⊎ (b % P ≡ 0)
p_euclid = euclid P p_prime

fermat_times : (q : ℕ) → IsPrime q → (a : ℕ) → 0 < a → a < q → (a * a ^ (q - 2)) % q ≡ 1
fermat_times q p a pos low =
    let large : 2 ≤ q = p.large in
    let self : a % q ≡ a = mod-eq_of_lt {n = a} {m = q} low in
    let unit : a % q ≢ 0 = omega arith in
    let one_more : suc (q - 2) ≡ q - 1 = omega arith in
    ap (λ (y : ℕ). y % q) (sym (pow-succ' a (q - 2)) ∙ ap (λ (y : ℕ). a ^ y) one_more)
    ∙ fermat q p a unit

-- Fermat's theorem: a times a ^ (P - 2) is 1
pub p_fermat : (a : ℕ) → 0 < a → a < P → (a * a ^ (P - 2)) % P ≡ 1
p_fermat = fermat_times P p_prime

-- so that power is the inverse
pub inverse_from : (a r : ℕ) → a ≢ 0 → a < P → r ≡ a ^ (P - 2) % P → (a * r) % P ≡ 1
inverse_from a r nz low is =
    let pos : 0 < a = omega arith in
    ap (λ (y : ℕ). (a * y) % P) is ∙ mul-mod_second a (a ^ (P - 2)) P ∙ p_fermat a pos low

-- the loop of `pow`: what is left at an even and at an odd rest
pub even_turn : (q a x r : ℕ) → r % 2 ≡ 0 → (a * ((x * x) % q) ^ (r / 2)) % q ≡ (a * x ^ r) % q
even_turn q a x r even =
    let parts : r / 2 * 2 + r % 2 ≡ r = div-add-mod' r 2 in
    let whole : r / 2 + r / 2 ≡ r = omega arith in
    sym (mul-mod_second a (((x * x) % q) ^ (r / 2)) q)
    ∙ ap (λ (y : ℕ). (a * y) % q) (pow-mod (x * x) (r / 2) q)
    ∙ mul-mod_second a ((x * x) ^ (r / 2)) q
    ∙ ap (λ (y : ℕ). (a * y) % q) (pow_square x (r / 2) ∙ ap (λ (y : ℕ). x ^ y) whole)

pub odd_turn : (q a x r : ℕ) → r % 2 ≡ 1 → ((a * x) % q * ((x * x) % q) ^ (r / 2)) % q
    ≡ (a * x ^ r) % q
odd_turn q a x r odd =
    let parts : r / 2 * 2 + r % 2 ≡ r = div-add-mod' r 2 in
    let whole : suc (r / 2 + r / 2) ≡ r = omega arith in
    let h : ℕ = x ^ (r / 2 + r / 2) in
    let order : a * x * h ≡ a * (x * h) = omega arith in
    mul-mod_first (a * x) (((x * x) % q) ^ (r / 2)) q
    ∙ sym (mul-mod_second (a * x) (((x * x) % q) ^ (r / 2)) q)
    ∙ ap (λ (y : ℕ). (a * x * y) % q) (pow-mod (x * x) (r / 2) q)
    ∙ mul-mod_second (a * x) ((x * x) ^ (r / 2)) q
    ∙ ap (λ (y : ℕ). (a * x * y) % q) (pow_square x (r / 2))
    ∙ ap (λ (y : ℕ). y % q) order
    ∙ ap (λ (y : ℕ). (a * y) % q) (sym (pow-succ' x (r / 2 + r / 2)) ∙ ap (λ (y : ℕ). x ^ y) whole)

pub halved : (i r : ℕ) → i < 64 → r < 2 ^ (64 - i) → r / 2 < 2 ^ (64 - (i + 1))
halved i r low small =
    let k : ℕ = 64 - (i + 1) in
    let more : 64 - i ≡ suc k = omega arith in
    let double : 2 ^ (64 - i) ≡ 2 ^ k + 2 ^ k = ap (λ (y : ℕ). 2 ^ y) more ∙ two-pow-succ k in
    let parts : r / 2 * 2 + r % 2 ≡ r = div-add-mod' r 2 in
    omega arith
