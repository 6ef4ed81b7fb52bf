-- A number when a program runs, and a value at compile time: a known value is the number, and one
-- that isn't opaque has it at each assignment of a set.
use Rattle.std.proofs.Common.{◌≡◌, ◌≢◌, ℕ, Option, Some, None, refl}
use Rattle.std.specs.Prelude.{⊤}
use Rattle.gold_field.specs.declared.operators.Op2.{Op2}
use Rattle.gold_field.specs.declared.operators.Op2.TheVariants as op2
use Rattle.cir_lc.specs.Number.{Assignment, constant}
use Rattle.cir_meaning.specs.declared.class.Class.{Class}
use Rattle.cir_meaning.specs.declared.class.Class.TheVariants as Class'
use Rattle.cir_meaning.specs.Classes.{sum_class, product_class, quotient_class, known_class}
use Rattle.cir_meaning.specs.Classes.{power_class, class_by}
use Rattle.cir_meaning.specs.Values.{Value, Known, Linear, Quadratic, Opaque, class_of, number_of}

abbrev pub Means : (Assignment → Type 0) → Value → ℕ → Type 0
Means E (Known k) n = k ≡ n
Means E (Linear f) n = (v : Assignment) → E v → f v ≡ n
Means E (Quadratic a b c) n = (v : Assignment) → E v → number_of (Quadratic a b c) v ≡ n
Means E Opaque n = ⊤

pub number_at : (E : Assignment → Type 0) (x : Value) (n : ℕ) (v : Assignment) → Means E x n
    → class_of x ≢ Class'.Opaque → E v → number_of x v ≡ n
unfolding constant
number_at E (Known k) n v h c e = h
number_at E (Linear f) n v h c e = h v e
number_at E (Quadratic a b c) n v h d e = h v e
number_at E Opaque n v h c e = let no : Class'.Opaque ≡ Class'.Opaque = refl in absurd (c no)

-- fewer assignments
pub means_in : (E F : Assignment → Type 0) (x : Value) (n : ℕ) → ((v : Assignment) → F v → E v)
    → Means E x n → Means F x n
means_in E F (Known k) n h m = m
means_in E F (Linear f) n h m = λ v e. m v (h v e)
means_in E F (Quadratic a b c) n h m = λ v e. m v (h v e)
means_in E F Opaque n h m = tt

-- a number at each assignment of the set
pub means_of : (E : Assignment → Type 0) (x : Value) (n : ℕ) → ((k : ℕ) → x ≡ Known k → k ≡ n)
    → ((v : Assignment) → E v → class_of x ≢ Class'.Opaque → number_of x v ≡ n) → Means E x n
means_of E (Known k) n h g = h k refl
means_of E (Linear f) n h g = λ v e. g v e (λ no. cc)
means_of E (Quadratic a b c) n h g = λ v e. g v e (λ no. cc)
means_of E Opaque n h g = tt

-- classes: what isn't opaque is made of what isn't opaque
abbrev pub Clear : Class → Class → Type 0
Clear x y = (x ≢ Class'.Opaque) × (y ≢ Class'.Opaque)

sum_clear : (x y : Class) → sum_class x y ≢ Class'.Opaque → Clear x y
sum_clear Class'.Known y h = ((λ e. cc), h)
sum_clear Class'.Linear Class'.Known h = ((λ e. cc), (λ e. cc))
sum_clear Class'.Linear Class'.Linear h = ((λ e. cc), (λ e. cc))
sum_clear Class'.Linear Class'.Quadratic h = ((λ e. cc), (λ e. cc))
sum_clear Class'.Linear Class'.Opaque h = absurd (h refl)
sum_clear Class'.Quadratic Class'.Known h = ((λ e. cc), (λ e. cc))
sum_clear Class'.Quadratic Class'.Linear h = ((λ e. cc), (λ e. cc))
sum_clear Class'.Quadratic Class'.Quadratic h = absurd (h refl)
sum_clear Class'.Quadratic Class'.Opaque h = absurd (h refl)
sum_clear Class'.Opaque y h = absurd (h refl)

product_clear : (x y : Class) → product_class x y ≢ Class'.Opaque → Clear x y
product_clear Class'.Known y h = ((λ e. cc), h)
product_clear Class'.Linear Class'.Known h = ((λ e. cc), (λ e. cc))
product_clear Class'.Linear Class'.Linear h = ((λ e. cc), (λ e. cc))
product_clear Class'.Linear Class'.Quadratic h = absurd (h refl)
product_clear Class'.Linear Class'.Opaque h = absurd (h refl)
product_clear Class'.Quadratic Class'.Known h = ((λ e. cc), (λ e. cc))
product_clear Class'.Quadratic Class'.Linear h = absurd (h refl)
product_clear Class'.Quadratic Class'.Quadratic h = absurd (h refl)
product_clear Class'.Quadratic Class'.Opaque h = absurd (h refl)
product_clear Class'.Opaque y h = absurd (h refl)

quotient_clear : (x y : Class) → quotient_class x y ≢ Class'.Opaque → Clear x y
quotient_clear x Class'.Known h = (h, (λ e. cc))
quotient_clear x Class'.Linear h = absurd (h refl)
quotient_clear x Class'.Quadratic h = absurd (h refl)
quotient_clear x Class'.Opaque h = absurd (h refl)

known_clear : (x y : Class) → known_class x y ≢ Class'.Opaque → Clear x y
known_clear Class'.Known Class'.Known h = ((λ e. cc), (λ e. cc))
known_clear Class'.Known Class'.Linear h = absurd (h refl)
known_clear Class'.Known Class'.Quadratic h = absurd (h refl)
known_clear Class'.Known Class'.Opaque h = absurd (h refl)
known_clear Class'.Linear y h = absurd (h refl)
known_clear Class'.Quadratic y h = absurd (h refl)
known_clear Class'.Opaque y h = absurd (h refl)

power_clear : (x y : Class) (e : Option ℕ) → power_class x y e ≢ Class'.Opaque → Clear x y
power_clear Class'.Opaque Class'.Known (Some e) h = absurd (h refl)
power_clear Class'.Known Class'.Known (Some e) h = ((λ e. cc), (λ e. cc))
power_clear Class'.Linear Class'.Known (Some e) h = ((λ e. cc), (λ e. cc))
power_clear Class'.Quadratic Class'.Known (Some e) h = ((λ e. cc), (λ e. cc))
power_clear x Class'.Known None h = known_clear x Class'.Known h
power_clear x Class'.Linear e h = absurd (h refl)
power_clear x Class'.Quadratic e h = absurd (h refl)
power_clear x Class'.Opaque e h = absurd (h refl)

pub clear : (op : Op2) (x y : Class) (e : Option ℕ) → class_by op x y e ≢ Class'.Opaque → Clear x y
clear op2.Add x y e h = sum_clear x y h
clear op2.Sub x y e h = sum_clear x y h
clear op2.Mul x y e h = product_clear x y h
clear op2.Div x y e h = quotient_clear x y h
clear op2.Pow x y e h = power_clear x y e h
clear op2.Quot x y e h = known_clear x y h
clear op2.Rem x y e h = known_clear x y h
clear op2.Shl x y e h = known_clear x y h
clear op2.Shr x y e h = known_clear x y h
clear op2.And x y e h = known_clear x y h
clear op2.Xor x y e h = known_clear x y h
clear op2.Or x y e h = known_clear x y h
clear op2.Lt x y e h = known_clear x y h
clear op2.Le x y e h = known_clear x y h
clear op2.Gt x y e h = known_clear x y h
clear op2.Ge x y e h = known_clear x y h
clear op2.Eq x y e h = known_clear x y h
clear op2.Ne x y e h = known_clear x y h

-- and a known result is of known operands, but for a power by 0
abbrev pub Both : Class → Class → Type 0
Both x y = (x ≡ Class'.Known) × (y ≡ Class'.Known)

pub sum_known : (x y : Class) → sum_class x y ≡ Class'.Known → Both x y
sum_known Class'.Known y h = (refl, h)
sum_known Class'.Linear Class'.Known h = cc
sum_known Class'.Linear Class'.Linear h = cc
sum_known Class'.Linear Class'.Quadratic h = cc
sum_known Class'.Linear Class'.Opaque h = cc
sum_known Class'.Quadratic Class'.Known h = cc
sum_known Class'.Quadratic Class'.Linear h = cc
sum_known Class'.Quadratic Class'.Quadratic h = cc
sum_known Class'.Quadratic Class'.Opaque h = cc
sum_known Class'.Opaque y h = cc

pub product_known : (x y : Class) → product_class x y ≡ Class'.Known → Both x y
product_known Class'.Known y h = (refl, h)
product_known Class'.Linear Class'.Known h = cc
product_known Class'.Linear Class'.Linear h = cc
product_known Class'.Linear Class'.Quadratic h = cc
product_known Class'.Linear Class'.Opaque h = cc
product_known Class'.Quadratic Class'.Known h = cc
product_known Class'.Quadratic Class'.Linear h = cc
product_known Class'.Quadratic Class'.Quadratic h = cc
product_known Class'.Quadratic Class'.Opaque h = cc
product_known Class'.Opaque y h = cc

pub quotient_known : (x y : Class) → quotient_class x y ≡ Class'.Known → Both x y
quotient_known x Class'.Known h = (h, refl)
quotient_known x Class'.Linear h = cc
quotient_known x Class'.Quadratic h = cc
quotient_known x Class'.Opaque h = cc

pub alone_known : (x y : Class) → known_class x y ≡ Class'.Known → Both x y
alone_known Class'.Known Class'.Known h = (refl, refl)
alone_known Class'.Known Class'.Linear h = cc
alone_known Class'.Known Class'.Quadratic h = cc
alone_known Class'.Known Class'.Opaque h = cc
alone_known Class'.Linear y h = cc
alone_known Class'.Quadratic y h = cc
alone_known Class'.Opaque y h = cc
