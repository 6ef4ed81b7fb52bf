-- The classes of results are the table's.
use Rattle.std.proofs.Common.{◌≡◌, ℕ, ◌/◌, ◌%◌, Bool, true, false, cond, Some, None, refl, sym, ap}
use Rattle.std.proofs.Common.{◌∙◌}
use Rattle.std.specs.Prelude.{◌==◌}
use Rattle.gold_field.specs.declared.operators.Op2.{Op2}
use Rattle.gold_field.specs.declared.operators.Op2.TheVariants.{Add, Sub, Mul, Div, Quot, Rem, Pow}
use Rattle.gold_field.specs.declared.operators.Op2.TheVariants.{Shl, Shr, And, Xor, Or, Lt, Le, Gt}
use Rattle.gold_field.specs.declared.operators.Op2.TheVariants.{Ge, Eq, Ne}
use Rattle.gold_field.specs.Operators.{binary_of}
use Rattle.cir_meaning.specs.declared.class.Class.{Class}
use Rattle.cir_meaning.specs.declared.class.Class.TheVariants as Class'
use Rattle.cir_meaning.specs.Classes.{sum_class, product_class, quotient_class, known_class}
use Rattle.cir_meaning.specs.Classes.{power_class, power_class_by, class_by}
use Rattle.cir_meaning.specs.Values.{Value, Known, Linear, Quadratic, Opaque, class_of, sum_of}
use Rattle.cir_meaning.specs.Values.{negative_of, product_of, quotient_of, known_of}
use Rattle.cir_meaning.specs.Values.{known_or_opaque, power_of, divided, known_number, result_of}
use Rattle.cir_meaning.specs.Values as V

sum_classes : (x y : Value) → class_of (sum_of x y) ≡ sum_class (class_of x) (class_of y)
sum_classes (Known j) (Known k) = refl
sum_classes (Known j) (Linear g) = refl
sum_classes (Known j) (Quadratic a b c) = refl
sum_classes (Known j) Opaque = refl
sum_classes (Linear f) (Known k) = refl
sum_classes (Linear f) (Linear g) = refl
sum_classes (Linear f) (Quadratic a b c) = refl
sum_classes (Linear f) Opaque = refl
sum_classes (Quadratic a b c) (Known k) = refl
sum_classes (Quadratic a b c) (Linear g) = refl
sum_classes (Quadratic a b c) (Quadratic d e f) = refl
sum_classes (Quadratic a b c) Opaque = refl
sum_classes Opaque y = refl

pub negative_class : (x : Value) → class_of (negative_of x) ≡ class_of x
negative_class (Known k) = refl
negative_class (Linear f) = refl
negative_class (Quadratic a b c) = refl
negative_class Opaque = refl

product_classes : (x y : Value)
    → class_of (product_of x y) ≡ product_class (class_of x) (class_of y)
product_classes (Known j) (Known k) = refl
product_classes (Known j) (Linear g) = refl
product_classes (Known j) (Quadratic a b c) = refl
product_classes (Known j) Opaque = refl
product_classes (Linear f) (Known k) = refl
product_classes (Linear f) (Linear g) = refl
product_classes (Linear f) (Quadratic a b c) = refl
product_classes (Linear f) Opaque = refl
product_classes (Quadratic a b c) (Known k) = refl
product_classes (Quadratic a b c) (Linear g) = refl
product_classes (Quadratic a b c) (Quadratic d e f) = refl
product_classes (Quadratic a b c) Opaque = refl
product_classes Opaque y = refl

quotient_classes : (x y : Value)
    → class_of (quotient_of x y) ≡ quotient_class (class_of x) (class_of y)
quotient_classes (Known j) (Known k) = refl
quotient_classes (Linear f) (Known k) = refl
quotient_classes (Quadratic a b c) (Known k) = refl
quotient_classes Opaque (Known k) = refl
quotient_classes x (Linear g) = refl
quotient_classes x (Quadratic a b c) = refl
quotient_classes x Opaque = refl

-- the answer on two numbers is a number, where there is one
known_classes : (op : Op2) (x y : Value)
    → ((j k : ℕ) → x ≡ Known j → y ≡ Known k → class_of (known_or_opaque (binary_of op j k))
    ≡ Class'.Known) → class_of (known_of op x y) ≡ known_class (class_of x) (class_of y)
known_classes op (Known j) (Known k) h = h j k refl refl
known_classes op (Known j) (Linear g) h = refl
known_classes op (Known j) (Quadratic a b c) h = refl
known_classes op (Known j) Opaque h = refl
known_classes op (Linear f) y h = refl
known_classes op (Quadratic a b c) y h = refl
known_classes op Opaque y h = refl

cond_some : (b : Bool) (v w : Value) → cond b None (Some v) ≡ Some w → (b ≡ false) × (v ≡ w)
cond_some true v w e = cc
cond_some false v w e = (refl, cc)

-- where a divisor isn't refused, the value is that of the quotient, and no known divisor is 0
pub divided_is : (y v w : Value) → divided y v ≡ Some w
    → (v ≡ w) × ((k : ℕ) → y ≡ Known k → (k == 0) ≡ false)
divided_is (Known k) v w e =
    let h = cond_some (k == 0) v w e in
    (h.1, λ n same. let kn : k ≡ n = cc in ap (λ (m : ℕ). m == 0) (sym kn) ∙ h.0)
divided_is (Linear f) v w e = (cc, λ k h. cc)
divided_is (Quadratic a b c) v w e = (cc, λ k h. cc)
divided_is Opaque v w e = (cc, λ k h. cc)

class_cond : (b : Bool) (x y : Value) (c d : Class) → class_of x ≡ c → class_of y ≡ d
    → class_of (cond b x y) ≡ cond b c d
class_cond true x y c d h k = h
class_cond false x y c d h k = k

power_classes_by : (x : Value) (e : ℕ) → class_of (V.power_by x e) ≡ power_class_by (class_of x) e
power_classes_by (Known j) e =
    class_cond (e == 0) _ _ _ _ refl
    (class_cond (e == 1) _ _ _ _ refl (class_cond (e == 2) _ _ _ _ refl refl))
power_classes_by (Linear f) e =
    class_cond (e == 0) _ _ _ _ refl
    (class_cond (e == 1) _ _ _ _ refl (class_cond (e == 2) _ _ _ _ refl refl))
power_classes_by (Quadratic a b c) e =
    class_cond (e == 0) _ _ _ _ refl
    (class_cond (e == 1) _ _ _ _ refl (class_cond (e == 2) _ _ _ _ refl refl))
power_classes_by Opaque e = refl

power_classes : (x y : Value)
    → class_of (power_of x y) ≡ power_class (class_of x) (class_of y) (known_number y)
power_classes x (Known e) = power_classes_by x e
power_classes x (Linear g) = refl
power_classes x (Quadratic a b c) = refl
power_classes x Opaque = refl

some_is : {A : Type 0} (x y : A) → Some x ≡ Some y → x ≡ y
some_is x y e = cc

always : (op : Op2) (x y v : Value) → Some (known_of op x y) ≡ Some v
    → ((j k : ℕ) → class_of (known_or_opaque (binary_of op j k)) ≡ Class'.Known)
    → class_of v ≡ known_class (class_of x) (class_of y)
always op x y v e h = ap class_of (sym (some_is _ _ e)) ∙ known_classes op x y (λ j k _ _. h j k)

pub classes : (op : Op2) (x y v : Value) → result_of op x y ≡ Some v
    → class_of v ≡ class_by op (class_of x) (class_of y) (known_number y)
classes Add x y v e = ap class_of (sym (some_is _ _ e)) ∙ sum_classes x y
classes Sub x y v e = ap class_of (sym (some_is _ _ e)) ∙ sum_classes x (negative_of y)
    ∙ ap (sum_class (class_of x)) (negative_class y)
classes Mul x y v e = ap class_of (sym (some_is _ _ e)) ∙ product_classes x y
classes Div x y v e = ap class_of (sym (divided_is y _ v e).0) ∙ quotient_classes x y
classes Quot x y v e =
    let d = divided_is y _ v e in
    ap class_of (sym d.0)
    ∙ known_classes Quot x y
    (λ j k _ same. ap (λ b. class_of (known_or_opaque (cond b None (Some (j / k)))))
    (d.1 k same))
classes Rem x y v e =
    let d = divided_is y _ v e in
    ap class_of (sym d.0)
    ∙ known_classes Rem x y
    (λ j k _ same. ap (λ b. class_of (known_or_opaque (cond b None (Some (j % k)))))
    (d.1 k same))
classes Pow x y v e = ap class_of (sym (some_is _ _ e)) ∙ power_classes x y
classes Shl x y v e = always Shl x y v e (λ j k. refl)
classes Shr x y v e = always Shr x y v e (λ j k. refl)
classes And x y v e = always And x y v e (λ j k. refl)
classes Xor x y v e = always Xor x y v e (λ j k. refl)
classes Or x y v e = always Or x y v e (λ j k. refl)
classes Lt x y v e = always Lt x y v e (λ j k. refl)
classes Le x y v e = always Le x y v e (λ j k. refl)
classes Gt x y v e = always Gt x y v e (λ j k. refl)
classes Ge x y v e = always Ge x y v e (λ j k. refl)
classes Eq x y v e = always Eq x y v e (λ j k. refl)
classes Ne x y v e = always Ne x y v e (λ j k. refl)
