-- The roots of unity and their orders.
use Rattle.std.proofs.Common.{◌≡◌, ◌≢◌, ℕ, zero, suc, ◌+◌, ◌-◌, ◌*◌, ◌%◌, ◌^◌, ◌<◌, ◌≤◌, refl, sym}
use Rattle.std.proofs.Common.{◌∙◌, ap, arith, lit<, mod-eq_of_lt, mod-lt, pow-suc}
use Rattle.std.proofs.Math.Nat.{mod-mod, pow-zero}
use Rattle.std.proofs.lemmas.Nat.{pow-mod, mul-mod_first}
use Rattle.gold_field.specs.declared.gold.TheConstants.{P}
use Rattle.gold_field.specs.Powers.{squared}
use Rattle.gold_field.proofs.Period.{pow_square, squared-power, no_period}
use Rattle.gold_field.proofs.PowerSteps.{pow_pow}
use Rattle.gold_ntt.specs.declared.roots.TheConstants.{ROOT}
use Rattle.gold_ntt.specs.Transform.{root_of}

squared-squared : (q m n x : ℕ) → squared q m (squared q n x) ≡ squared q (n + m) x
squared-squared q m zero x =
    let none : 0 + m ≡ m = omega arith in sym (ap (λ (y : ℕ). squared q y x) none)
squared-squared q m (suc n) x =
    let next : suc n + m ≡ suc (n + m) = omega arith in
    squared-squared q m n ((x * x) % q) ∙ sym (ap (λ (y : ℕ). squared q y x) next)

root_31 : squared P 31 ROOT ≡ P - 1
root_31 = refl

root_32 : squared P 32 ROOT ≡ 1
root_32 = refl

pub root_one : (e : ℕ) → e ≤ 32 → (root_of e ^ (2 ^ e)) % P ≡ 1
unfolding root_of
root_one e l =
    let whole : 32 - e + e ≡ 32 = omega arith in
    sym (squared-power P e (squared P (32 - e) ROOT))
    ∙ ap (λ (y : ℕ). y % P) (squared-squared P e (32 - e) ROOT
    ∙ ap (λ (y : ℕ). squared P y ROOT) whole ∙ root_32)

-- the power that is half the order is -1
pub root_half : (e : ℕ) → e < 32 → (root_of (suc e) ^ (2 ^ e)) % P ≡ P - 1
unfolding root_of
root_half e l =
    let whole : 32 - suc e + e ≡ 31 = omega arith in
    sym (squared-power P e (squared P (32 - suc e) ROOT))
    ∙ ap (λ (y : ℕ). y % P) (squared-squared P e (32 - suc e) ROOT
    ∙ ap (λ (y : ℕ). squared P y ROOT) whole ∙ root_31)

pub root_order : (e : ℕ) → e ≤ 32 → (k : ℕ) → 0 < k → k < 2 ^ e → (root_of e ^ k) % P ≢ 1
root_order zero l k pos low = absurd (omega arith)
root_order (suc e) l k pos low =
    no_period e P (root_of (suc e)) (lit< tt) (root_half e (omega arith)) k pos low

-- a turn of the loop of `root`
pub a_turn : (q i r : ℕ) → i < 32 → squared q (32 - (i + 1)) ((r * r) % q)
    ≡ squared q (32 - i) r
a_turn q i r l =
    let next : 32 - i ≡ suc (32 - (i + 1)) = omega arith in sym (ap (λ (y : ℕ). squared q y r) next)

-- x ^ (2 ^ n - 1), by squarings
abbrev all_ones : ℕ → ℕ
all_ones zero = 0
all_ones (suc n) = all_ones n + all_ones n + 1

abbrev power_mod : ℕ → ℕ → ℕ → ℕ
power_mod q zero x = 1
power_mod q (suc n) x = power_mod q n ((x * x) % q) * x % q

power_mod_is : (q n x : ℕ) → power_mod q n x % q ≡ (x ^ all_ones n) % q
power_mod_is q zero x = ap (λ (y : ℕ). y % q) (sym (pow-zero x))
power_mod_is q (suc n) x =
    let k : ℕ = all_ones n in
    let more : k + k + 1 ≡ suc (k + k) = omega arith in
    mod-mod (power_mod q n ((x * x) % q) * x) q
    ∙ sym (mul-mod_first (power_mod q n ((x * x) % q)) x q)
    ∙ ap (λ (y : ℕ). (y * x) % q) (power_mod_is q n ((x * x) % q) ∙ pow-mod (x * x) k q)
    ∙ mul-mod_first ((x * x) ^ k) x q
    ∙ ap (λ (y : ℕ). y % q) (ap (λ (y : ℕ). y * x) (pow_square x k) ∙ sym (pow-suc x (k + k))
    ∙ ap (λ (y : ℕ). x ^ y) (sym more))

-- stated with a variable for 7, so that nothing computes the power itself
root_made : (b : ℕ) → b ≡ 7 → (b ^ (2 ^ 32 - 1)) % P ≡ ROOT
root_made b is = sym (power_mod_is P 32 b) ∙ ap (λ (y : ℕ). power_mod P 32 y % P) is ∙ seven
  where
    seven : power_mod P 32 7 % P ≡ ROOT
    seven = refl

squared_below : (q n x : ℕ) → x < q → squared q n x < q
squared_below q zero x l = l
squared_below q (suc n) x l =
    let pos : 0 < q = omega arith in squared_below q n ((x * x) % q) (mod-lt (x * x) pos)

pub root_below : (e : ℕ) → root_of e < P
unfolding root_of
root_below e = squared_below P (32 - e) ROOT (lit< tt)

-- the root as a power of 7
pub root_power : (e b : ℕ) → b ≡ 7 → root_of e ≡ b ^ ((2 ^ 32 - 1) * 2 ^ (32 - e)) % P
unfolding root_of
root_power e b is =
    let n : ℕ = 32 - e in
    let k : ℕ = 2 ^ n in
    sym (mod-eq_of_lt {n = squared P n ROOT} {m = P} (squared_below P n ROOT (lit< tt)))
    ∙ squared-power P n ROOT
    ∙ ap (λ (y : ℕ). (y ^ k) % P) (sym (root_made b is)) ∙ pow-mod (b ^ (2 ^ 32 - 1)) k P
    ∙ ap (λ (y : ℕ). y % P) (pow_pow b (2 ^ 32 - 1) k)
