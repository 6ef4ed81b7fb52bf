-- The value of an expression at an assignment: its numbers are functions of the assignment. There
-- are no linear combinations in it.
use Rattle.std.specs.Prelude.{ℕ, ◌*◌, ◌-◌, ◌%◌, ◌+◌, ◌<◌, Option, Some, None, if◌then◌else◌, ◌==◌}
use Rattle.gold_field.specs.declared.gold.TheConstants.{P}
use Rattle.gold_field.specs.declared.operators.Op1.{Op1}
use Rattle.gold_field.specs.declared.operators.Op1.TheVariants.{Neg, Not, Compl}
use Rattle.gold_field.specs.declared.operators.Op2.{Op2}
use Rattle.gold_field.specs.declared.operators.Op2.TheVariants.{Add, Sub, Mul, Div, Quot, Rem, Pow}
use Rattle.gold_field.specs.declared.operators.Op2.TheVariants.{Shl, Shr, And, Xor, Or, Lt, Le, Gt}
use Rattle.gold_field.specs.declared.operators.Op2.TheVariants.{Ge, Eq, Ne}
use Rattle.gold_field.specs.Operators.{unary_of, binary_of, inverse_of}
use Rattle.cir_lc.specs.Number.{Assignment, Number, constant, added, scaled, multiplied, negated}
use Rattle.cir_meaning.specs.declared.class.Class.{Class}
use Rattle.cir_meaning.specs.declared.class.Class.TheVariants as Class'

-- a number that is known, a linear number, a number a * b + c of three linear ones, or another
pub data Value : Type 0 where
  Known : ℕ → Value
  Linear : Number → Value
  Quadratic : Number → Number → Number → Value
  Opaque : Value

abbrev pub class_of : Value → Class
class_of (Known k) = Class'.Known
class_of (Linear f) = Class'.Linear
class_of (Quadratic a b c) = Class'.Quadratic
class_of Opaque = Class'.Opaque

-- the numbers are of the field
abbrev pub IsNumber : Number → Type 0
IsNumber f = (s : Assignment) → f s < P

abbrev pub IsValue : Value → Type 0
IsValue (Known k) = k < P
IsValue (Linear f) = IsNumber f
IsValue (Quadratic a b c) = IsNumber a × IsNumber b × IsNumber c
IsValue Opaque = Unit {0}

-- the greater class; but two quadratic numbers have no quadratic sum
abbrev pub sum_of : Value → Value → Value
sum_of (Known j) (Known k) = Known ((j + k) % P)
sum_of (Known j) (Linear g) = Linear (added (constant j) g)
sum_of (Known j) (Quadratic a b c) = Quadratic a b (added (constant j) c)
sum_of (Known j) Opaque = Opaque
sum_of (Linear f) (Known k) = Linear (added f (constant k))
sum_of (Linear f) (Linear g) = Linear (added f g)
sum_of (Linear f) (Quadratic a b c) = Quadratic a b (added f c)
sum_of (Linear f) Opaque = Opaque
sum_of (Quadratic a b c) (Known k) = Quadratic a b (added c (constant k))
sum_of (Quadratic a b c) (Linear g) = Quadratic a b (added c g)
sum_of (Quadratic a b c) (Quadratic d e f) = Opaque
sum_of (Quadratic a b c) Opaque = Opaque
sum_of Opaque y = Opaque

abbrev pub negative_of : Value → Value
negative_of (Known k) = Known ((P - k) % P)
negative_of (Linear f) = Linear (negated f)
negative_of (Quadratic a b c) = Quadratic (negated a) b (negated c)
negative_of Opaque = Opaque

abbrev pub difference_of : Value → Value → Value
difference_of x y = sum_of x (negative_of y)

-- a known factor keeps the class of the other, and two linear numbers have a quadratic product
abbrev pub product_of : Value → Value → Value
product_of (Known j) (Known k) = Known ((j * k) % P)
product_of (Known k) (Linear f) = Linear (scaled k f)
product_of (Known k) (Quadratic a b c) = Quadratic (scaled k a) b (scaled k c)
product_of (Known k) Opaque = Opaque
product_of (Linear f) (Known k) = Linear (scaled k f)
product_of (Linear f) (Linear g) = Quadratic f g (constant 0)
product_of (Linear f) (Quadratic a b c) = Opaque
product_of (Linear f) Opaque = Opaque
product_of (Quadratic a b c) (Known k) = Quadratic (scaled k a) b (scaled k c)
product_of (Quadratic a b c) (Linear f) = Opaque
product_of (Quadratic a b c) (Quadratic d e f) = Opaque
product_of (Quadratic a b c) Opaque = Opaque
product_of Opaque y = Opaque

-- a quotient by a known number is the product with its inverse
abbrev pub quotient_of : Value → Value → Value
quotient_of x (Known k) = product_of x (Known (inverse_of k))
quotient_of x (Linear f) = Opaque
quotient_of x (Quadratic a b c) = Opaque
quotient_of x Opaque = Opaque

abbrev pub known_or_opaque : Option ℕ → Value
known_or_opaque None = Opaque
known_or_opaque (Some k) = Known k

-- an operator on numbers alone
abbrev pub known_of : Op2 → Value → Value → Value
known_of op (Known j) (Known k) = known_or_opaque (binary_of op j k)
known_of op (Known j) (Linear g) = Opaque
known_of op (Known j) (Quadratic a b c) = Opaque
known_of op (Known j) Opaque = Opaque
known_of op (Linear f) y = Opaque
known_of op (Quadratic a b c) y = Opaque
known_of op Opaque y = Opaque

-- a power: by a known 0, 1 or 2 the number 1, the base, and the base times itself
abbrev pub power_by : Value → ℕ → Value
power_by Opaque e = Opaque
power_by x e = if e == 0 then Known 1
    else (if e == 1 then x else (if e == 2 then product_of x x else known_of Pow x (Known e)))

abbrev pub power_of : Value → Value → Value
power_of x (Known e) = power_by x e
power_of x (Linear g) = Opaque
power_of x (Quadratic a b c) = Opaque
power_of x Opaque = Opaque

-- a known divisor 0 is refused
abbrev pub divided : Value → Value → Option Value
divided (Known k) v = if k == 0 then None else Some v
divided (Linear f) v = Some v
divided (Quadratic a b c) v = Some v
divided Opaque v = Some v

-- the value of a binary operator, or none where its divisor is a known 0
abbrev pub result_of : Op2 → Value → Value → Option Value
result_of Add x y = Some (sum_of x y)
result_of Sub x y = Some (difference_of x y)
result_of Mul x y = Some (product_of x y)
result_of Div x y = divided y (quotient_of x y)
result_of Quot x y = divided y (known_of Quot x y)
result_of Rem x y = divided y (known_of Rem x y)
result_of Pow x y = Some (power_of x y)
result_of Shl x y = Some (known_of Shl x y)
result_of Shr x y = Some (known_of Shr x y)
result_of And x y = Some (known_of And x y)
result_of Xor x y = Some (known_of Xor x y)
result_of Or x y = Some (known_of Or x y)
result_of Lt x y = Some (known_of Lt x y)
result_of Le x y = Some (known_of Le x y)
result_of Gt x y = Some (known_of Gt x y)
result_of Ge x y = Some (known_of Ge x y)
result_of Eq x y = Some (known_of Eq x y)
result_of Ne x y = Some (known_of Ne x y)

-- `!` and `~` are of numbers alone
abbrev pub known_unary : Op1 → Value → Value
known_unary op (Known k) = Known (unary_of op k)
known_unary op (Linear f) = Opaque
known_unary op (Quadratic a b c) = Opaque
known_unary op Opaque = Opaque

abbrev pub unary_result : Op1 → Value → Value
unary_result Neg x = negative_of x
unary_result Not x = known_unary Not x
unary_result Compl x = known_unary Compl x

-- what is known of a lazy operator by its left side: the answer, that the right side decides, or
-- that the right side is shaded
pub data Lazy : Type 0 where
  Decided : ℕ → Lazy
  Right : Lazy
  Shaded : Lazy

abbrev pub and_left : Value → Lazy
and_left (Known k) = if k == 0 then Decided 0 else Right
and_left (Linear f) = Shaded
and_left (Quadratic a b c) = Shaded
and_left Opaque = Shaded

abbrev pub or_left : Value → Lazy
or_left (Known k) = if k == 0 then Right else Decided 1
or_left (Linear f) = Shaded
or_left (Quadratic a b c) = Shaded
or_left Opaque = Shaded

-- the answer of a right side that decides: its truth
abbrev pub truth_of : Value → Value
truth_of (Known k) = Known (if k == 0 then 0 else 1)
truth_of (Linear f) = Opaque
truth_of (Quadratic a b c) = Opaque
truth_of Opaque = Opaque

-- the value of a lazy operator, of what its left side tells and of its right side
abbrev pub lazy_result : Lazy → Value → Value
lazy_result (Decided n) y = Known n
lazy_result Right y = truth_of y
lazy_result Shaded y = Opaque

-- which side of `?:` a condition chooses, if that is known; else both are shaded, and the value is
-- opaque
pub data Side : Type 0 where
  First : Side
  Second : Side
  Both : Side

abbrev pub side_of : Value → Side
side_of (Known k) = if k == 0 then Second else First
side_of (Linear f) = Both
side_of (Quadratic a b c) = Both
side_of Opaque = Both

-- the value of `?:`
abbrev pub chosen : Side → Value → Value → Value
chosen First x y = x
chosen Second x y = y
chosen Both x y = Opaque

-- `&&`, `||` and `?:` on numbers. Truth is "not 0".
abbrev pub truth_number : ℕ → ℕ
truth_number n = if n == 0 then 0 else 1

abbrev pub and_number : ℕ → ℕ → ℕ
and_number m n = if m == 0 then 0 else truth_number n

abbrev pub or_number : ℕ → ℕ → ℕ
or_number m n = if m == 0 then truth_number n else 1

abbrev pub choice_number : ℕ → ℕ → ℕ → ℕ
choice_number c m n = if c == 0 then n else m

-- the number of a value; an opaque one has none that anybody asks for
abbrev pub number_of : Value → Number
number_of (Known k) = constant k
number_of (Linear f) = f
number_of (Quadratic a b c) = added (multiplied a b) c
number_of Opaque = constant 0

-- the numbers a, b, c of a value a * b + c
pub record Parts : Type 0 where
  pub a : Number
  pub b : Number
  pub c : Number

abbrev pub parts_of : Value → Option Parts
parts_of (Known k) = Some record { a = constant 0; b = constant 0; c = constant k }
parts_of (Linear f) = Some record { a = constant 0; b = constant 0; c = f }
parts_of (Quadratic a b c) = Some record { a = a; b = b; c = c }
parts_of Opaque = None

-- a known number
abbrev pub known_number : Value → Option ℕ
known_number (Known k) = Some k
known_number (Linear f) = None
known_number (Quadratic a b c) = None
known_number Opaque = None
