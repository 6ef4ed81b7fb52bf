-- Bit reversal is its own inverse, and how it counts.
use Rattle.std.proofs.Common.{◌≡◌, ℕ, zero, suc, ◌+◌, ◌-◌, ◌*◌, ◌/◌, ◌%◌, ◌^◌, ◌<◌, ◌≤◌, inl, inr}
use Rattle.std.proofs.Common.{refl, ◌∙◌, ap, arith, mod-lt, lit<}
use Rattle.std.proofs.Math.Nat.{two-pow-succ}
use Rattle.std.proofs.lemmas.Bool.{cases_lt, cases_eq}
use Rattle.gold_ntt.specs.Reversal.{reversed}

pub reversed_below : (k b : ℕ) → reversed k b < 2 ^ k
reversed_below zero b = lit< tt
reversed_below (suc k) b =
    let double : 2 ^ suc k ≡ 2 ^ k + 2 ^ k = two-pow-succ k in
    elim (cases_lt (b % 2) 1) [
      | inl low ↦
          let none : b % 2 * 2 ^ k ≡ 0 =
          let is : b % 2 ≡ 0 = omega arith in ap (λ (y : ℕ). y * 2 ^ k) is ∙ omega arith in
          omega (arith, reversed_below k (b / 2))
      | inr high ↦
          let one : b % 2 * 2 ^ k ≡ 2 ^ k =
          let is : b % 2 ≡ 1 = let low : b % 2 < 2 = mod-lt b (lit< tt) in omega arith in
          ap (λ (y : ℕ). y * 2 ^ k) is ∙ omega arith in
          omega (arith, reversed_below k (b / 2))
    ]

pub reversed-even : (k i : ℕ) → reversed (suc k) (i + i) ≡ reversed k i
reversed-even k i =
    let rest : (i + i) % 2 ≡ 0 = omega arith in
    let half : (i + i) / 2 ≡ i = omega arith in
    ap (λ (y : ℕ). y * 2 ^ k + reversed k ((i + i) / 2)) rest
    ∙ ap (λ (y : ℕ). 0 * 2 ^ k + reversed k y) half ∙ omega arith

pub reversed-odd : (k i : ℕ) → reversed (suc k) (suc (i + i)) ≡ 2 ^ k + reversed k i
reversed-odd k i =
    let rest : suc (i + i) % 2 ≡ 1 = omega arith in
    let half : suc (i + i) / 2 ≡ i = omega arith in
    ap (λ (y : ℕ). y * 2 ^ k + reversed k (suc (i + i) / 2)) rest
    ∙ ap (λ (y : ℕ). 1 * 2 ^ k + reversed k y) half ∙ omega arith

-- the top bit becomes the lowest
pub top : (k h r : ℕ) → h < 2 → r < 2 ^ k → reversed (suc k) (h * 2 ^ k + r) ≡ 2 * reversed k r + h
top zero h r two low =
    let none : r ≡ 0 = omega arith in
    let is : h * 2 ^ 0 + r ≡ h = omega arith in
    let rest : h % 2 ≡ h = omega arith in
    ap (λ (y : ℕ). y % 2 * 2 ^ 0 + 0) is ∙ omega arith
top (suc k) h r two low =
    let double : 2 ^ suc k ≡ 2 ^ k + 2 ^ k = two-pow-succ k in
    let t : ℕ = 2 ^ k in
    let parts : h * 2 ^ suc k ≡ h * t + h * t = ap (λ (y : ℕ). h * y) double ∙ omega arith in
    let n : ℕ = h * 2 ^ suc k + r in
    let rest : n % 2 ≡ r % 2 = omega arith in
    let half : n / 2 ≡ h * t + r / 2 = omega arith in
    let small : r / 2 < 2 ^ k = omega arith in
    let first : n % 2 * 2 ^ suc k ≡ r % 2 * t + r % 2 * t =
    ap (λ (y : ℕ). y * 2 ^ suc k) rest ∙ ap (λ (y : ℕ). r % 2 * y) double ∙ omega arith in
    let second : reversed (suc k) (n / 2) ≡ 2 * reversed k (r / 2) + h =
    ap (λ (y : ℕ). reversed (suc k) y) half ∙ top k h (r / 2) two small in
    omega (arith, first, second)

pub reversed_twice : (k b : ℕ) → b < 2 ^ k → reversed k (reversed k b) ≡ b
reversed_twice zero b low = omega arith
reversed_twice (suc k) b low =
    let double : 2 ^ suc k ≡ 2 ^ k + 2 ^ k = two-pow-succ k in
    let two : b % 2 < 2 = mod-lt b (lit< tt) in
    let small : b / 2 < 2 ^ k = omega arith in
    top k (b % 2) (reversed k (b / 2)) two (reversed_below k (b / 2))
    ∙ omega (arith, reversed_twice k (b / 2) small)

-- counting up in reversed bits, from the top: where the top bit is 0 it is set, else it is cleared
-- and the rest counts
pub next_low : (k b j : ℕ) → j ≡ reversed (suc k) b → j < 2 ^ k
    → j + 2 ^ k ≡ reversed (suc k) (b + 1)
next_low k b j is low =
    elim (cases_eq (b % 2) 0) [
      | inl even ↦
          let rest : (b + 1) % 2 ≡ 1 = omega arith in
          let half : (b + 1) / 2 ≡ b / 2 = omega arith in
          let none : b % 2 * 2 ^ k ≡ 0 = ap (λ (y : ℕ). y * 2 ^ k) even ∙ omega arith in
          let more : reversed (suc k) (b + 1) ≡ 1 * 2 ^ k + reversed k (b / 2) =
          ap (λ (y : ℕ). y * 2 ^ k + reversed k ((b + 1) / 2)) rest
          ∙ ap (λ (y : ℕ). 1 * 2 ^ k + reversed k y) half in
          omega arith
      | inr odd ↦
          let one : b % 2 * 2 ^ k ≡ 2 ^ k =
          let is_one : b % 2 ≡ 1 = let two : b % 2 < 2 = mod-lt b (lit< tt) in omega arith in
          ap (λ (y : ℕ). y * 2 ^ k) is_one ∙ omega arith in
          absurd (omega arith)
    ]

pub next_high : (k b j r : ℕ) → j ≡ reversed (suc k) b → 2 ^ k ≤ j
    → ((c : ℕ) → j - 2 ^ k ≡ reversed k c → r ≡ reversed k (c + 1)) → r ≡ reversed (suc k) (b + 1)
next_high k b j r is high next =
    elim (cases_eq (b % 2) 0) [
      | inl even ↦
          let none : b % 2 * 2 ^ k ≡ 0 = ap (λ (y : ℕ). y * 2 ^ k) even ∙ omega arith in
          let below : reversed k (b / 2) < 2 ^ k = reversed_below k (b / 2) in
          absurd (omega arith)
      | inr odd ↦
          let one : b % 2 * 2 ^ k ≡ 2 ^ k =
          let is_one : b % 2 ≡ 1 = let two : b % 2 < 2 = mod-lt b (lit< tt) in omega arith in
          ap (λ (y : ℕ). y * 2 ^ k) is_one ∙ omega arith in
          let rest : (b + 1) % 2 ≡ 0 = omega arith in
          let half : (b + 1) / 2 ≡ b / 2 + 1 = omega arith in
          let more : reversed (suc k) (b + 1) ≡ 0 * 2 ^ k + reversed k (b / 2 + 1) =
          ap (λ (y : ℕ). y * 2 ^ k + reversed k ((b + 1) / 2)) rest
          ∙ ap (λ (y : ℕ). 0 * 2 ^ k + reversed k y) half in
          let low : j - 2 ^ k ≡ reversed k (b / 2) = omega arith in
          omega (arith, next (b / 2) low)
    ]

pub reversed-zero : (k : ℕ) → reversed k 0 ≡ 0
reversed-zero zero = refl
reversed-zero (suc k) = omega (arith, reversed-zero k)
