-- The operators of Circom over the field: a table over whole numbers. Operands are numbers from 0
-- to p - 1. Every answer is one again. Truth is "not 0", and a test answers 1 or 0.
use Rattle.std.specs.Prelude.{ℕ, ◌+◌, ◌-◌, ◌*◌, ◌/◌, ◌%◌, ◌^◌, Bool, not, if◌then◌else◌, ◌==◌}
use Rattle.std.specs.Prelude.{nat_le, Option, Some, None, ℤ, pos, ◌-ℤ◌, int_lt, bit_and, bit_or}
use Rattle.std.specs.Prelude.{bit_xor}
use Rattle.gold_field.specs.declared.gold.TheConstants.{P}
use Rattle.gold_field.specs.declared.operators.Op1.{Op1}
use Rattle.gold_field.specs.declared.operators.Op1.TheVariants.{Neg, Not, Compl}
use Rattle.gold_field.specs.declared.operators.Op2.{Op2}
use Rattle.gold_field.specs.declared.operators.Op2.TheVariants.{Add, Sub, Mul, Div, Quot, Rem, Pow}
use Rattle.gold_field.specs.declared.operators.Op2.TheVariants.{Shl, Shr, And, Xor, Or, Lt, Le, Gt}
use Rattle.gold_field.specs.declared.operators.Op2.TheVariants.{Ge, Eq, Ne}

-- (p - 1) / 2
abbrev pub HALF : ℕ
HALF = 9223372034707292160

-- the number as comparisons see it: above (p - 1) / 2 it is negative
abbrev pub val : ℕ → ℤ
val z = if nat_le z HALF then pos z else pos z -ℤ pos P

abbrev pub truth : Bool → ℕ
truth b = if b then 1 else 0

-- the inverse of a number that is not 0
abbrev pub inverse_of : ℕ → ℕ
inverse_of a = a ^ (P - 2) % P

-- shifts by k ≤ (p - 1) / 2: the low 64 bits of a product, and a quotient
abbrev pub left : ℕ → ℕ → ℕ
left a k = a * 2 ^ k % 2 ^ 64 % P

abbrev pub right : ℕ → ℕ → ℕ
right a k = a / 2 ^ k

-- a shift by more goes by p - k in the other direction
abbrev pub shifted_left : ℕ → ℕ → ℕ
shifted_left a k = if nat_le k HALF then left a k else right a (P - k)

abbrev pub shifted_right : ℕ → ℕ → ℕ
shifted_right a k = if nat_le k HALF then right a k else left a (P - k)

-- the order of comparisons
abbrev pub is_less : ℕ → ℕ → Bool
is_less a b = int_lt (val a) (val b)

abbrev pub unless_zero : ℕ → ℕ → Option ℕ
unless_zero b answer = if b == 0 then None else Some answer

abbrev pub unary_of : Op1 → ℕ → ℕ
unary_of Neg a = (P - a) % P
unary_of Not a = truth (a == 0)
unary_of Compl a = (2 ^ 64 - 1 - a) % P

abbrev pub binary_of : Op2 → ℕ → ℕ → Option ℕ
binary_of Add a b = Some ((a + b) % P)
binary_of Sub a b = Some ((a + (P - b)) % P)
binary_of Mul a b = Some (a * b % P)
binary_of Div a b = unless_zero b (a * inverse_of b % P)
binary_of Quot a b = unless_zero b (a / b)
binary_of Rem a b = unless_zero b (a % b)
binary_of Pow a b = Some (a ^ b % P)
binary_of Shl a b = Some (shifted_left a b)
binary_of Shr a b = Some (shifted_right a b)
binary_of And a b = Some (bit_and a b % P)
binary_of Xor a b = Some (bit_xor a b % P)
binary_of Or a b = Some (bit_or a b % P)
binary_of Lt a b = Some (truth (is_less a b))
binary_of Le a b = Some (truth (not (is_less b a)))
binary_of Gt a b = Some (truth (is_less b a))
binary_of Ge a b = Some (truth (not (is_less a b)))
binary_of Eq a b = Some (truth (a == b))
binary_of Ne a b = Some (truth (not (a == b)))

-- the operators that have no answer where the divisor is 0
abbrev pub Divides : Op2 → Type 0
Divides Div = Unit {0}
Divides Quot = Unit {0}
Divides Rem = Unit {0}
Divides _ = ⊥
