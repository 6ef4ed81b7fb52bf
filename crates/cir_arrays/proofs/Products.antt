-- Products and sizes that stand still at the end of the type.
use Rattle.std.proofs.Common.{◌≡◌, ℕ, zero, suc, ◌+◌, ◌*◌, ◌<◌, ◌≤◌, ◌⊎◌, inl, inr, ap, ◌∙◌, refl}
use Rattle.std.proofs.Common.{arith}
use Rattle.std.specs.Prelude.{min, ◌^◌, ◌-◌}
use Rattle.std.proofs.Math.Nat.{min-eq_left, min-eq_right, mul-le-mul_left, le-mul_of_pos_right}
use Rattle.std.proofs.Math.Nat.{mul-zero, zero-mul, mul_assoc, mul_comm}
use Rattle.std.proofs.lemmas.Bool.{cases_lt}
use Rattle.cir_meaning.specs.Limits.{standing}

min_times : (m a b : ℕ) → 0 < b → min (min a m * b) m ≡ min (a * b) m
min_times m a b h = at (cases_lt m a)
  where
    once : 1 ≤ b
    once = omega arith

    at : (m < a) ⊎ (a ≤ m) → min (min a m * b) m ≡ min (a * b) m
    at (inr l) = rw (min-eq_left l) refl
    at (inl l) =
        let small : m ≤ a = omega arith in
        let first : m ≤ m * b = omega (arith, mul-le-mul_left m once) in
        let second : m ≤ a * b = omega (arith, mul-le-mul_left a once) in
        rw (min-eq_right small, min-eq_right first, min-eq_right second) refl

-- a product stands still where its first factor does
pub standing_times : (a b : ℕ) → 0 < b → standing (standing a * b) ≡ standing (a * b)
standing_times a b h = min_times (2 ^ 64 - 1) a b h

pub pos_of_times : (d e : ℕ) → 0 < d * e → 0 < e
pos_of_times d zero h = absurd (omega (arith, mul-zero d))
pos_of_times d (suc e) h = omega arith

-- the number of elements, with one dimension more that is multiplied
pub product_step : (count d e all result : ℕ) → 0 < d * e → standing (count * (d * e)) ≡ all
    → result ≡ standing (count * d) → (0 < e) × (standing (result * e) ≡ all)
product_step count d e all result some is step = (positive, whole)
  where
    positive : 0 < e
    positive = pos_of_times d e some

    whole : standing (result * e) ≡ all
    whole = ap (λ (r : ℕ). standing (r * e)) step ∙ standing_times (count * d) e positive
        ∙ ap standing (mul_assoc count d e) ∙ is

-- the place of a part, with one index more
pub place_step : (place i e f : ℕ)
    → standing (standing (place + standing (i * standing e)) + f)
    ≡ standing (place + (i * e + f))
place_step place zero e f = rw (zero-mul (standing e), zero-mul e) (omega arith)
place_step place (suc i) e f =
    let same : standing (suc i * standing e) ≡ standing (suc i * e) =
    rw (mul_comm (suc i) (standing e), mul_comm (suc i) e)
    (standing_times e (suc i) (omega arith)) in
    rw same (omega arith)

pub factor_below : (d e most : ℕ) → 0 < d * e → d * e ≤ most → (0 < e) × (e ≤ most)
factor_below d e most some small =
    let swapped : 0 < e * d = rw (mul_comm e d) some in
    let more : e ≤ e * d = le-mul_of_pos_right e (pos_of_times e d swapped) in
    let same : e * d ≡ d * e = mul_comm e d in
    (pos_of_times d e some, omega arith)
