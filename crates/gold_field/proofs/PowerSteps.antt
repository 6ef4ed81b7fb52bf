-- Steps of powers modulo q.
use Rattle.std.proofs.Common.{◌≡◌, ℕ, zero, suc, ◌+◌, ◌*◌, ◌%◌, ◌^◌, sym, ◌∙◌, ap, arith, pow-suc}
use Rattle.std.proofs.Math.Nat.{mod-mod, pow-zero, two-pow-succ}
use Rattle.std.proofs.lemmas.Nat.{mul-mod, mul-mod_first, pow-mod, pow-add}
use Rattle.gold_field.proofs.Period.{pow_one}

pub pow_pow : (x k n : ℕ) → (x ^ k) ^ n ≡ x ^ (k * n)
pow_pow x k zero = let none : k * 0 ≡ 0 = omega arith in pow-zero (x ^ k)
    ∙ sym (ap (λ (y : ℕ). x ^ y) none ∙ pow-zero x)
pow_pow x k (suc n) =
    let more : k * n + k ≡ k * suc n = omega arith in
    pow-suc (x ^ k) n ∙ ap (λ (y : ℕ). y * x ^ k) (pow_pow x k n) ∙ sym (pow-add x (k * n) k)
    ∙ ap (λ (y : ℕ). x ^ y) more

pub first_power : (q x : ℕ) → x % q ≡ (x ^ 1) % q
first_power q x = ap (λ (y : ℕ). y % q) (sym (pow_one x))

-- one more squaring
pub square_step : (q x n y r : ℕ) → y % q ≡ (x ^ (2 ^ n)) % q → r ≡ (y * y) % q
    → r % q ≡ (x ^ (2 ^ (n + 1))) % q
square_step q x n y r e is =
    let one_more : n + 1 ≡ suc n = omega arith in
    ap (λ (z : ℕ). z % q) is ∙ mod-mod (y * y) q ∙ mul-mod y y q ∙ ap (λ (z : ℕ). (z * z) % q) e
    ∙ sym (mul-mod (x ^ (2 ^ n)) (x ^ (2 ^ n)) q)
    ∙ ap (λ (z : ℕ). z % q) (sym (pow-add x (2 ^ n) (2 ^ n))
    ∙ ap (λ (z : ℕ). x ^ z) (sym (two-pow-succ n) ∙ ap (λ (z : ℕ). 2 ^ z) (sym one_more)))

joined : (q x a b k y z : ℕ) → y % q ≡ (x ^ a) % q → z % q ≡ (x ^ b) % q
    → (y ^ k * z) % q ≡ (x ^ (a * k + b)) % q
joined q x a b k y z first second =
    let power : (y ^ k) % q ≡ (x ^ (a * k)) % q =
    sym (pow-mod y k q) ∙ ap (λ (w : ℕ). (w ^ k) % q) first ∙ pow-mod (x ^ a) k q
    ∙ ap (λ (w : ℕ). w % q) (pow_pow x a k) in
    mul-mod (y ^ k) z q ∙ ap (λ (w : ℕ). (w * (z % q)) % q) power
    ∙ ap (λ (w : ℕ). ((x ^ (a * k)) % q * w) % q) second
    ∙ sym (mul-mod (x ^ (a * k)) (x ^ b) q) ∙ ap (λ (w : ℕ). w % q) (sym (pow-add x (a * k) b))

-- a power to the k-th, times another
pub power_step : (q x a b k y z r : ℕ) → y % q ≡ (x ^ a) % q → z % q ≡ (x ^ b) % q
    → r ≡ (y ^ k * z) % q → r % q ≡ (x ^ (a * k + b)) % q
power_step q x a b k y z r first second is =
    ap (λ (w : ℕ). w % q) is ∙ mod-mod (y ^ k * z) q ∙ joined q x a b k y z first second

pub power_last : (q x a b k y z r : ℕ) → y % q ≡ (x ^ a) % q → z % q ≡ (x ^ b) % q
    → r ≡ (y ^ k * z) % q → r ≡ (x ^ (a * k + b)) % q
power_last q x a b k y z r first second is = is ∙ joined q x a b k y z first second

-- the chain to the exponent P - 2, at any modulus
pub chain : (q x r2 r3 r6 r12 r24 r30 r31 r63 r : ℕ)
    → r2 ≡ (x ^ (2 ^ 1) * x) % q → r3 ≡ (r2 ^ (2 ^ 1) * x) % q → r6 ≡ (r3 ^ (2 ^ 3) * r3) % q
    → r12 ≡ (r6 ^ (2 ^ 6) * r6) % q → r24 ≡ (r12 ^ (2 ^ 12) * r12) % q
    → r30 ≡ (r24 ^ (2 ^ 6) * r6) % q
    → r31 ≡ (r30 ^ (2 ^ 1) * x) % q → r63 ≡ (r31 ^ (2 ^ 32) * r31) % q → r ≡ (r63 ^ (2 ^ 1) * x) % q
    → r ≡ (x ^ 18446744069414584319) % q
chain q x r2 r3 r6 r12 r24 r30 r31 r63 r e2 e3 e6 e12 e24 e30 e31 e63 e =
    let p1 : x % q ≡ (x ^ 1) % q = first_power q x in
    let p2 : r2 % q ≡ (x ^ 3) % q = power_step q x 1 1 (2 ^ 1) x x r2 p1 p1 e2 in
    let p3 : r3 % q ≡ (x ^ 7) % q = power_step q x 3 1 (2 ^ 1) r2 x r3 p2 p1 e3 in
    let p6 : r6 % q ≡ (x ^ 63) % q = power_step q x 7 7 (2 ^ 3) r3 r3 r6 p3 p3 e6 in
    let p12 : r12 % q ≡ (x ^ 4095) % q = power_step q x 63 63 (2 ^ 6) r6 r6 r12 p6 p6 e12 in
    let p24 : r24 % q ≡ (x ^ 16777215) % q =
    power_step q x 4095 4095 (2 ^ 12) r12 r12 r24 p12 p12 e24 in
    let p30 : r30 % q ≡ (x ^ 1073741823) % q =
    power_step q x 16777215 63 (2 ^ 6) r24 r6 r30 p24 p6 e30 in
    let p31 : r31 % q ≡ (x ^ 2147483647) % q =
    power_step q x 1073741823 1 (2 ^ 1) r30 x r31 p30 p1 e31 in
    let p63 : r63 % q ≡ (x ^ 9223372034707292159) % q =
    power_step q x 2147483647 2147483647 (2 ^ 32) r31 r31 r63 p31 p31 e63 in
    power_last q x 9223372034707292159 1 (2 ^ 1) r63 x r p63 p1 e

pub square_end : (q x n m y z r : ℕ) → y % q ≡ (x ^ (2 ^ n)) % q → n ≡ m → r ≡ (y * z) % q
    → r ≡ (x ^ (2 ^ m) * z) % q
square_end q x n m y z r e at is =
    is ∙ sym (mul-mod_first y z q) ∙ ap (λ (w : ℕ). (w * z) % q) e ∙ mul-mod_first (x ^ (2 ^ n)) z q
    ∙ ap (λ (w : ℕ). (x ^ (2 ^ w) * z) % q) at
