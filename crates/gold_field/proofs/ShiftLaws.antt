-- Shifts of a word by 64 places and more leave nothing.
use Rattle.std.proofs.Common.{◌≡◌, ℕ, ◌+◌, ◌-◌, ◌*◌, ◌/◌, ◌%◌, ◌^◌, ◌<◌, ◌≤◌, sym, ◌∙◌, ap, arith}
use Rattle.std.proofs.Common.{lit<, mul_assoc}
use Rattle.std.proofs.Math.Nat.{mul-mod_left, div-eq_of_lt, pow-le-pow_right}
use Rattle.std.proofs.lemmas.Nat.{pow-add}

past_by : (a j w : ℕ) → a * 2 ^ (j + w) % 2 ^ w ≡ 0
past_by a j w =
    ap (λ (y : ℕ). a * y % 2 ^ w) (pow-add 2 j w)
    ∙ ap (λ (y : ℕ). y % 2 ^ w) (sym (mul_assoc a (2 ^ j) (2 ^ w)))
    ∙ mul-mod_left (a * 2 ^ j) (2 ^ w)

pub left_past : (q a k : ℕ) → 64 ≤ k → a * 2 ^ k % 2 ^ 64 % q ≡ 0 % q
left_past q a k h =
    let is : k ≡ k - 64 + 64 = omega arith in
    ap (λ (y : ℕ). a * 2 ^ y % 2 ^ 64 % q) is ∙ ap (λ (y : ℕ). y % q) (past_by a (k - 64) 64)

pub right_past : (a k : ℕ) → a < 2 ^ 64 → 64 ≤ k → a / 2 ^ k ≡ 0
right_past a k low h =
    let high : 2 ^ 64 ≤ 2 ^ k = pow-le-pow_right {n = 2} (lit< tt) {i = 64} {j = k} h in
    div-eq_of_lt {n = a} {m = 2 ^ k} (omega arith)
