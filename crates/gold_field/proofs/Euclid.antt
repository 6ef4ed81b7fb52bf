-- Euclid's lemma for any prime: a prime that divides a product divides a factor.
use Rattle.std.proofs.Common.{◌≡◌, ◌≢◌, ℕ, zero, suc, ◌+◌, ◌*◌, ◌/◌, ◌%◌, ◌<◌, ◌≤◌, ◌⊎◌, inl, inr}
use Rattle.std.proofs.Common.{sym, ◌∙◌, ap, arith, mod-lt, div-add-mod', mul_assoc, zero-add}
use Rattle.std.proofs.Math.Nat.{mod-add-mod, mul-mod_right, zero-mod, add-mul}
use Rattle.std.proofs.lemmas.Nat.{mul-mod_first, mul-mod_second}
use Rattle.std.proofs.lemmas.Bool.{cases_eq, cases_lt}
use Rattle.gold_field.specs.Prime.{IsPrime}

-- a multiple of a multiple of q is one
pub times_zero : (c x q : ℕ) → x % q ≡ 0 → (c * x) % q ≡ 0
times_zero c x q e =
    let none : c * 0 ≡ 0 = omega arith in
    sym (mul-mod_second c x q) ∙ ap (λ (y : ℕ). (c * y) % q) e ∙ ap (λ (y : ℕ). y % q) none
    ∙ zero-mod q

-- a multiple of q may be left out of a sum
pub plus_zero : (x y q : ℕ) → x % q ≡ 0 → (x + y) % q ≡ y % q
plus_zero x y q e =
    sym (mod-add-mod x q y) ∙ ap (λ (z : ℕ). (z + y) % q) e ∙ ap (λ (z : ℕ). z % q) (zero-add y)

-- by descent from a to q % a, which is 0 only at a = 1
divides_other : (n q b : ℕ) → IsPrime q → (a : ℕ) → a ≤ n → 0 < a → a < q → (a * b) % q ≡ 0
    → b % q ≡ 0
divides_other zero q b p a l z h e = absurd (omega arith)
divides_other (suc n) q b p a l z h e =
    elim (cases_lt 1 a) [
      | inr one ↦
          let is : a * b ≡ b =
          let a_one : a ≡ 1 = omega arith in ap (λ (x : ℕ). x * b) a_one ∙ omega arith in
          sym (ap (λ (x : ℕ). x % q) is) ∙ e
      | inl above ↦
          let two : 2 ≤ a = omega arith in
          let nz : q % a ≢ 0 = p.whole a two h in
          let low : q % a < a = mod-lt q z in
          let whole : q / a * a + q % a ≡ q = div-add-mod' q a in
          let parts : q / a * (a * b) + q % a * b ≡ q * b =
          ap (λ (x : ℕ). x + q % a * b) (sym (mul_assoc (q / a) a b))
          ∙ sym (add-mul (q / a * a) (q % a) b)
          ∙ ap (λ (x : ℕ). x * b) whole in
          let zero_first : (q / a * (a * b)) % q ≡ 0 = times_zero (q / a) (a * b) q e in
          let rest : (q % a * b) % q ≡ 0 =
          sym (plus_zero (q / a * (a * b)) (q % a * b) q zero_first) ∙ ap (λ (x : ℕ). x % q) parts
          ∙ mul-mod_right q b in
          divides_other n q b p (q % a) (omega arith) (omega arith) (omega arith) rest
    ]

pub euclid : (q : ℕ) → IsPrime q → (a b : ℕ) → (a * b) % q ≡ 0 → (a % q ≡ 0) ⊎ (b % q ≡ 0)
euclid q p a b e =
    let large : 2 ≤ q = p.large in
    let pos : 0 < q = omega arith in
    let low : a % q < q = mod-lt a pos in
    elim (cases_eq (a % q) 0) [
      | inl is ↦ inl is
      | inr is_not ↦
          inr (divides_other q q b p (a % q) (omega arith) (omega arith) low (mul-mod_first a b q
          ∙ e))
    ]
