use Rattle.std.proofs.Common.{◌≡◌, ℕ, ◌+◌, ◌-◌, ◌*◌, ◌/◌, ◌%◌, ◌<◌, arith, ap, sym, refl, ◌∙◌}
use Rattle.std.proofs.Common.{mod-lt, mod-eq_of_lt, lit<}
use Rattle.std.proofs.lemmas.Nat.{div-add-mod'}
use Rattle.gold_field.specs.declared.gold.TheConstants.{P}
use Rattle.gold_field.specs.Operators.{inverse_of}
use Rattle.gold_field.proofs.PrimeLaws.{inverse_from}
use Rattle.cir_simplify.proofs.row.minus_inverse.Goals as goal

-- 1 and -1 are their own inverses
one_inverse : (a v : ℕ) → a ≡ 1 → v < P → (a * v) % P ≡ 1 → v ≡ 1
one_inverse a v e l h =
    let alone : a * v ≡ v = ap (λ (n : ℕ). n * v) e ∙ omega arith in
    sym (ap (λ (n : ℕ). n % P) alone ∙ mod-eq_of_lt {n = v} {m = P} l) ∙ h

minus_own : (a v : ℕ) → a ≡ P - 1 → v < P → (a * v) % P ≡ 1 → v ≡ P - 1
minus_own a v e l h =
    let all : a * v ≡ (P - 1) * v = ap (λ (n : ℕ). n * v) e in
    let split : (a * v) / P * P + (a * v) % P ≡ a * v = div-add-mod' (a * v) P in
    omega arith

is_inverse : (a : ℕ) → 0 < a → a < P → (a * inverse_of a) % P ≡ 1
is_inverse a p l = inverse_from a (inverse_of a) (λ e. omega arith) l refl

is_small : (a : ℕ) → inverse_of a < P
is_small a = mod-lt _ (lit< tt)

at_one : (a r : ℕ) → 0 < a → a ≡ 1 → r ≡ (P - 1) % P → r ≡ (P - inverse_of a) % P
at_one a r p e f =
    f ∙ ap (λ (n : ℕ). (P - n) % P)
    (sym (one_inverse a (inverse_of a) e (is_small a) (is_inverse a p (omega (arith, e)))))

at_minus_one : (a r : ℕ) → 0 < a → a ≡ P - 1 → r ≡ 1 → r ≡ (P - inverse_of a) % P
at_minus_one a r p e f =
    f ∙ ap (λ (n : ℕ). (P - n) % P)
    (sym (minus_own a (inverse_of a) e (is_small a) (is_inverse a p (omega (arith, e)))))

pub returns-then-get-eq1 : goal.returns-then-get-eq1
returns-then-get-eq1 c =
    at_one c.args.coef _ c.requires (sym c.get.ensures.value ∙ c.if-get-eq1.true)
    c.neg-minus_one.ensures

pub returns-then-get : goal.returns-then-get
returns-then-get c =
    at_minus_one c.args.coef _ c.requires
    (sym c.get-2.ensures.value ∙ c.if-get.true ∙ c.get-3.ensures.value ∙ c.neg-minus_one.ensures)
    refl
