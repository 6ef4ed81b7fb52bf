-- The class of an operator's result, by the classes of its operands. Cancellation doesn't lower a
-- class.
use Rattle.std.specs.Prelude.{ℕ, Option, Some, None, if◌then◌else◌, ◌==◌}
use Rattle.gold_field.specs.declared.operators.Op1.{Op1}
use Rattle.gold_field.specs.declared.operators.Op1.TheVariants.{Neg, Not, Compl}
use Rattle.gold_field.specs.declared.operators.Op2.{Op2}
use Rattle.gold_field.specs.declared.operators.Op2.TheVariants.{Add, Sub, Mul, Div, Quot, Rem, Pow}
use Rattle.gold_field.specs.declared.operators.Op2.TheVariants.{Shl, Shr, And, Xor, Or, Lt, Le, Gt}
use Rattle.gold_field.specs.declared.operators.Op2.TheVariants.{Ge, Eq, Ne}
use Rattle.cir_meaning.specs.declared.class.Class.{Class}
use Rattle.cir_meaning.specs.declared.class.Class.TheVariants.{Known, Linear, Quadratic, Opaque}

-- a sum: the greater class, but two quadratic operands have an opaque sum
abbrev pub sum_class : Class → Class → Class
sum_class Known y = y
sum_class Linear Known = Linear
sum_class Linear Linear = Linear
sum_class Linear Quadratic = Quadratic
sum_class Linear Opaque = Opaque
sum_class Quadratic Known = Quadratic
sum_class Quadratic Linear = Quadratic
sum_class Quadratic Quadratic = Opaque
sum_class Quadratic Opaque = Opaque
sum_class Opaque y = Opaque

-- a product: a known factor keeps the class of the other, and two linear factors make a quadratic
-- one
abbrev pub product_class : Class → Class → Class
product_class Known y = y
product_class Linear Known = Linear
product_class Linear Linear = Quadratic
product_class Linear Quadratic = Opaque
product_class Linear Opaque = Opaque
product_class Quadratic Known = Quadratic
product_class Quadratic Linear = Opaque
product_class Quadratic Quadratic = Opaque
product_class Quadratic Opaque = Opaque
product_class Opaque y = Opaque

-- a quotient: a known divisor keeps the class
abbrev pub quotient_class : Class → Class → Class
quotient_class x Known = x
quotient_class x Linear = Opaque
quotient_class x Quadratic = Opaque
quotient_class x Opaque = Opaque

-- an operator on numbers alone
abbrev pub known_class : Class → Class → Class
known_class Known Known = Known
known_class Known Linear = Opaque
known_class Known Quadratic = Opaque
known_class Known Opaque = Opaque
known_class Linear y = Opaque
known_class Quadratic y = Opaque
known_class Opaque y = Opaque

-- a power whose exponent is a known number: the powers 0, 1 and 2 of a base that isn't opaque are
-- 1, the base, and the product of the base with itself
abbrev pub power_class_by : Class → ℕ → Class
power_class_by Opaque e = Opaque
power_class_by x e = if e == 0 then Known
    else (if e == 1 then x else (if e == 2 then product_class x x else known_class x Known))

abbrev pub power_class : Class → Class → Option ℕ → Class
power_class x Known (Some e) = power_class_by x e
power_class x Known None = known_class x Known
power_class x Linear e = Opaque
power_class x Quadratic e = Opaque
power_class x Opaque e = Opaque

-- the table; the exponent is that of a power, where it is a known number
abbrev pub class_by : Op2 → Class → Class → Option ℕ → Class
class_by Add x y e = sum_class x y
class_by Sub x y e = sum_class x y
class_by Mul x y e = product_class x y
class_by Div x y e = quotient_class x y
class_by Pow x y e = power_class x y e
class_by Quot x y e = known_class x y
class_by Rem x y e = known_class x y
class_by Shl x y e = known_class x y
class_by Shr x y e = known_class x y
class_by And x y e = known_class x y
class_by Xor x y e = known_class x y
class_by Or x y e = known_class x y
class_by Lt x y e = known_class x y
class_by Le x y e = known_class x y
class_by Gt x y e = known_class x y
class_by Ge x y e = known_class x y
class_by Eq x y e = known_class x y
class_by Ne x y e = known_class x y

abbrev pub known_alone : Class → Class
known_alone Known = Known
known_alone Linear = Opaque
known_alone Quadratic = Opaque
known_alone Opaque = Opaque

-- `-` keeps the class; `!` and `~` are of numbers alone
abbrev pub unary_class : Op1 → Class → Class
unary_class Neg x = x
unary_class Not x = known_alone x
unary_class Compl x = known_alone x
