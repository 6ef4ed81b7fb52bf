-- Laws of the field's arithmetic. Most hold modulo any q; the last ones need a prime.
use Rattle.std.proofs.Common.{◌≡◌, ◌≢◌, ℕ, suc, ◌+◌, ◌-◌, ◌*◌, ◌/◌, ◌%◌, ◌^◌, ◌<◌, ◌≤◌, sym, ◌∙◌}
use Rattle.std.proofs.Common.{ap, arith, mod-eq_of_lt, mod-lt, mul_assoc, add_assoc, div-add-mod'}
use Rattle.std.proofs.Math.Nat.{mod-add-mod, add-mod-mod, mul-add, mul-mod_right, pow-succ'}
use Rattle.std.proofs.lemmas.Nat.{mul-mod, mul-mod_first, mul-mod_second}
use Rattle.gold_field.specs.declared.gold.TheConstants.{P}
use Rattle.gold_field.specs.Prime.{IsPrime}
use Rattle.gold_field.proofs.Euclid.{plus_zero}
use Rattle.gold_field.proofs.Binomial.{fermat}
use Rattle.gold_field.proofs.PrimeLaws.{p_prime}

-- a sum and a product are those of representatives
pub sum_of_rests : (q a b : ℕ) → (a % q + b % q) % q ≡ (a + b) % q
sum_of_rests q a b = mod-add-mod a q (b % q) ∙ add-mod-mod a b q

pub product_of_rests : (q a b : ℕ) → (a % q * (b % q)) % q ≡ (a * b) % q
product_of_rests q a b = sym (mul-mod a b q)

pub sum_assoc : (q a b c : ℕ) → ((a + b) % q + c) % q ≡ (a + (b + c) % q) % q
sum_assoc q a b c =
    mod-add-mod (a + b) q c ∙ ap (λ (y : ℕ). y % q) (add_assoc a b c)
    ∙ sym (add-mod-mod a (b + c) q)

pub product_assoc : (q a b c : ℕ) → ((a * b) % q * c) % q ≡ (a * ((b * c) % q)) % q
product_assoc q a b c =
    mul-mod_first (a * b) c q ∙ ap (λ (y : ℕ). y % q) (mul_assoc a b c)
    ∙ sym (mul-mod_second a (b * c) q)

pub product_over_sum : (q a b c : ℕ) → (a * ((b + c) % q)) % q ≡ ((a * b) % q + (a * c) % q) % q
product_over_sum q a b c =
    mul-mod_second a (b + c) q ∙ ap (λ (y : ℕ). y % q) (mul-add a b c)
    ∙ sym (sum_of_rests q (a * b) (a * c))

-- a and q - a cancel
pub opposite : (q a : ℕ) → 0 < q → (a + (q - a % q)) % q ≡ 0
opposite q a pos =
    let low : a % q < q = mod-lt a pos in
    let parts : a / q * q + a % q ≡ a = div-add-mod' a q in
    let whole : a + (q - a % q) ≡ q * (a / q + 1) = omega arith in
    ap (λ (y : ℕ). y % q) whole ∙ mul-mod_right q (a / q + 1)

pub negative_sum : (q a : ℕ) → a ≤ q → (a + (q - a) % q) % q ≡ 0
negative_sum q a h =
    let whole : a + (q - a) ≡ q * 1 = omega arith in
    add-mod-mod a (q - a) q ∙ ap (λ (y : ℕ). y % q) whole ∙ mul-mod_right q 1

pub difference_back : (q a b : ℕ) → b ≤ q → ((a + (q - b)) % q + b) % q ≡ a % q
difference_back q a b h =
    let whole : a + (q - b) + b ≡ q * 1 + a = omega arith in
    mod-add-mod (a + (q - b)) q b ∙ ap (λ (y : ℕ). y % q) whole
    ∙ plus_zero (q * 1) a q (mul-mod_right q 1)

-- the difference of two representatives is 0 exactly where they are equal
pub difference_zero : (q a b : ℕ) → a < q → b < q → (a + (q - b)) % q ≡ 0 → a ≡ b
difference_zero q a b low high e =
    let back : ((a + (q - b)) % q + b) % q ≡ a % q = difference_back q a b (omega arith) in
    let here : (0 + b) % q ≡ a % q = sym (ap (λ (y : ℕ). (y + b) % q) e) ∙ back in
    let self : a % q ≡ a = mod-eq_of_lt {n = a} {m = q} low in
    let other : (0 + b) % q ≡ b = mod-eq_of_lt {n = 0 + b} {m = q} (omega arith) ∙ omega arith in
    omega arith

pub difference_self : (q a : ℕ) → a ≤ q → (a + (q - a)) % q ≡ 0
difference_self q a h =
    let whole : a + (q - a) ≡ q * 1 = omega arith in
    ap (λ (y : ℕ). y % q) whole ∙ mul-mod_right q 1

pub sum_cancel : (q a b c : ℕ) → 0 < q → (a + b) % q ≡ (a + c) % q → b % q ≡ c % q
sum_cancel q a b c pos e = sym (back b) ∙ ap (λ (y : ℕ). (y + (q - a % q)) % q) e ∙ back c
  where
    back : (y : ℕ) → ((a + y) % q + (q - a % q)) % q ≡ y % q
    back y =
        let order : a + y + (q - a % q) ≡ a + (q - a % q) + y = omega arith in
        mod-add-mod (a + y) q (q - a % q) ∙ ap (λ (z : ℕ). z % q) order
        ∙ plus_zero (a + (q - a % q)) y q (opposite q a pos)

-- a factor with an inverse cancels
pub unit_cancel : (q a r b c : ℕ) → 1 < q → (a * r) % q ≡ 1 → (a * b) % q ≡ (a * c) % q
    → b % q ≡ c % q
unit_cancel q a r b c large unit e =
    sym (through b) ∙ ap (λ (y : ℕ). (r * y) % q) e ∙ through c
  where
    through : (y : ℕ) → (r * ((a * y) % q)) % q ≡ y % q
    through y =
        let order : r * (a * y) ≡ a * r * y = omega arith in
        let one : 1 * y ≡ y = omega arith in
        mul-mod_second r (a * y) q ∙ ap (λ (z : ℕ). z % q) order ∙ sym (mul-mod_first (a * r) y q)
        ∙ ap (λ (z : ℕ). (z * y) % q) unit ∙ ap (λ (z : ℕ). z % q) one

-- the power q - 2 is an inverse modulo a prime
pub unit_at : (q : ℕ) → IsPrime q → (a : ℕ) → a % q ≢ 0 → (a * a ^ (q - 2)) % q ≡ 1
unit_at q p a unit =
    let large : 2 ≤ q = p.large in
    let one_more : suc (q - 2) ≡ q - 1 = omega arith in
    ap (λ (y : ℕ). y % q) (sym (pow-succ' a (q - 2)) ∙ ap (λ (y : ℕ). a ^ y) one_more)
    ∙ fermat q p a unit

-- every number that is not 0 modulo P has an inverse
pub has_inverse : (a : ℕ) → a % P ≢ 0 → (r : ℕ) × ((a * r) % P ≡ 1)
has_inverse a unit = (a ^ (P - 2), unit_at P p_prime a unit)

product_cancel_at : (q : ℕ) → IsPrime q → (a b c : ℕ) → a % q ≢ 0 → (a * b) % q ≡ (a * c) % q
    → b % q ≡ c % q
product_cancel_at q p a b c unit e =
    let large : 2 ≤ q = p.large in
    unit_cancel q a (a ^ (q - 2)) b c (omega arith) (unit_at q p a unit) e

pub product_cancel : (a b c : ℕ) → a % P ≢ 0 → (a * b) % P ≡ (a * c) % P → b % P ≡ c % P
product_cancel = product_cancel_at P p_prime
