-- The operators give values of the field.
use Rattle.std.proofs.Common.{◌≡◌, ℕ, ◌<◌, Bool, true, false, cond, Option, Some, None, refl, subst}
use Rattle.std.proofs.Common.{arith}
use Rattle.std.specs.Prelude.{◌==◌}
use Rattle.gold_field.specs.declared.gold.TheConstants.{P}
use Rattle.gold_field.specs.declared.operators.Op1.{Op1}
use Rattle.gold_field.specs.declared.operators.Op1.TheVariants.{Neg, Not, Compl}
use Rattle.gold_field.specs.declared.operators.Op2.{Op2}
use Rattle.gold_field.specs.declared.operators.Op2.TheVariants.{Add, Sub, Mul, Div, Quot, Rem, Pow}
use Rattle.gold_field.specs.declared.operators.Op2.TheVariants.{Shl, Shr, And, Xor, Or, Lt, Le, Gt}
use Rattle.gold_field.specs.declared.operators.Op2.TheVariants.{Ge, Eq, Ne}
use Rattle.gold_field.specs.Operators.{binary_of, inverse_of}
use Rattle.gold_field.proofs.Answers.{binary_below, unary_below}
use Rattle.cir_lc.specs.Number.{constant, added, scaled, negated}
use Rattle.cir_meaning.specs.Values.{Value, Known, Linear, Quadratic, Opaque, IsValue, sum_of}
use Rattle.cir_meaning.specs.Values.{negative_of, product_of, quotient_of, known_of}
use Rattle.cir_meaning.specs.Values.{known_or_opaque, power_of, power_by, result_of, known_unary}
use Rattle.cir_meaning.specs.Values.{unary_result}
use Rattle.cir_meaning.proofs.ClassLaws.{divided_is}

sum_value : (x y : Value) → IsValue x → IsValue y → IsValue (sum_of x y)
unfolding constant added
sum_value (Known j) (Known k) v w = omega arith
sum_value (Known j) (Linear g) v w = λ s. omega arith
sum_value (Known j) (Quadratic a b c) v w = (w.0, w.1, λ s. omega arith)
sum_value (Known j) Opaque v w = tt
sum_value (Linear f) (Known k) v w = λ s. omega arith
sum_value (Linear f) (Linear g) v w = λ s. omega arith
sum_value (Linear f) (Quadratic a b c) v w = (w.0, w.1, λ s. omega arith)
sum_value (Linear f) Opaque v w = tt
sum_value (Quadratic a b c) (Known k) v w = (v.0, v.1, λ s. omega arith)
sum_value (Quadratic a b c) (Linear g) v w = (v.0, v.1, λ s. omega arith)
sum_value (Quadratic a b c) (Quadratic d e f) v w = tt
sum_value (Quadratic a b c) Opaque v w = tt
sum_value Opaque y v w = tt

negative_value : (x : Value) → IsValue x → IsValue (negative_of x)
unfolding negated
negative_value (Known k) v = omega arith
negative_value (Linear f) v = λ s. omega arith
negative_value (Quadratic a b c) v = (λ s. omega arith, v.1, λ s. omega arith)
negative_value Opaque v = tt

product_value : (x y : Value) → IsValue x → IsValue y → IsValue (product_of x y)
unfolding constant scaled
product_value (Known j) (Known k) v w = omega arith
product_value (Known j) (Linear g) v w = λ s. omega arith
product_value (Known j) (Quadratic a b c) v w = (λ s. omega arith, w.1, λ s. omega arith)
product_value (Known j) Opaque v w = tt
product_value (Linear f) (Known k) v w = λ s. omega arith
product_value (Linear f) (Linear g) v w = (v, w, λ s. omega arith)
product_value (Linear f) (Quadratic a b c) v w = tt
product_value (Linear f) Opaque v w = tt
product_value (Quadratic a b c) (Known k) v w = (λ s. omega arith, v.1, λ s. omega arith)
product_value (Quadratic a b c) (Linear g) v w = tt
product_value (Quadratic a b c) (Quadratic d e f) v w = tt
product_value (Quadratic a b c) Opaque v w = tt
product_value Opaque y v w = tt

quotient_value : (x y : Value) → IsValue x → IsValue (quotient_of x y)
quotient_value x (Known k) v = product_value x (Known (inverse_of k)) v (omega arith)
quotient_value x (Linear g) v = tt
quotient_value x (Quadratic a b c) v = tt
quotient_value x Opaque v = tt

answer_value : (op : Op2) (j k : ℕ) (o : Option ℕ) → j < P → binary_of op j k ≡ o
    → IsValue (known_or_opaque o)
answer_value op j k None h e = tt
answer_value op j k (Some n) h e = binary_below op j k n h e

known_value : (op : Op2) (x y : Value) → IsValue x → IsValue (known_of op x y)
known_value op (Known j) (Known k) v = answer_value op j k (binary_of op j k) v refl
known_value op (Known j) (Linear g) v = tt
known_value op (Known j) (Quadratic a b c) v = tt
known_value op (Known j) Opaque v = tt
known_value op (Linear f) y v = tt
known_value op (Quadratic a b c) y v = tt
known_value op Opaque y v = tt

cond_value : (b : Bool) (x y : Value) → IsValue x → IsValue y → IsValue (cond b x y)
cond_value true x y v w = v
cond_value false x y v w = w

-- the powers 0, 1 and 2, and the others
powers : (x : Value) (e : ℕ) → IsValue x
    → IsValue
    (cond (e == 0) (Known 1)
    (cond (e == 1) x (cond (e == 2) (product_of x x) (known_of Pow x (Known e)))))
powers x e v =
    cond_value (e == 0) _ _ (omega arith)
    (cond_value (e == 1) _ _ v
    (cond_value (e == 2) _ _ (product_value x x v v) (known_value Pow x (Known e) v)))

power_by_value : (x : Value) (e : ℕ) → IsValue x → IsValue (power_by x e)
power_by_value (Known k) e v = powers (Known k) e v
power_by_value (Linear f) e v = powers (Linear f) e v
power_by_value (Quadratic a b c) e v = powers (Quadratic a b c) e v
power_by_value Opaque e v = tt

power_value : (x y : Value) → IsValue x → IsValue (power_of x y)
power_value x (Known e) v = power_by_value x e v
power_value x (Linear g) v = tt
power_value x (Quadratic a b c) v = tt
power_value x Opaque v = tt

is_value : (u v : Value) → IsValue u → Some u ≡ Some v → IsValue v
is_value u v h e = let same : u ≡ v = cc in subst IsValue same h

pub result_value : (op : Op2) (x y v : Value) → IsValue x → IsValue y → result_of op x y ≡ Some v
    → IsValue v
result_value Add x y v i j e = is_value _ v (sum_value x y i j) e
result_value Sub x y v i j e = is_value _ v (sum_value x (negative_of y) i (negative_value y j)) e
result_value Mul x y v i j e = is_value _ v (product_value x y i j) e
result_value Div x y v i j e =
    subst IsValue (divided_is y (quotient_of x y) v e).0 (quotient_value x y i)
result_value Quot x y v i j e =
    subst IsValue (divided_is y (known_of Quot x y) v e).0 (known_value Quot x y i)
result_value Rem x y v i j e =
    subst IsValue (divided_is y (known_of Rem x y) v e).0 (known_value Rem x y i)
result_value Pow x y v i j e = is_value _ v (power_value x y i) e
result_value Shl x y v i j e = is_value _ v (known_value Shl x y i) e
result_value Shr x y v i j e = is_value _ v (known_value Shr x y i) e
result_value And x y v i j e = is_value _ v (known_value And x y i) e
result_value Xor x y v i j e = is_value _ v (known_value Xor x y i) e
result_value Or x y v i j e = is_value _ v (known_value Or x y i) e
result_value Lt x y v i j e = is_value _ v (known_value Lt x y i) e
result_value Le x y v i j e = is_value _ v (known_value Le x y i) e
result_value Gt x y v i j e = is_value _ v (known_value Gt x y i) e
result_value Ge x y v i j e = is_value _ v (known_value Ge x y i) e
result_value Eq x y v i j e = is_value _ v (known_value Eq x y i) e
result_value Ne x y v i j e = is_value _ v (known_value Ne x y i) e

known_unary_value : (op : Op1) (x : Value) → IsValue (known_unary op x)
known_unary_value op (Known k) = unary_below op k
known_unary_value op (Linear f) = tt
known_unary_value op (Quadratic a b c) = tt
known_unary_value op Opaque = tt

pub unary_value : (op : Op1) (x : Value) → IsValue x → IsValue (unary_result op x)
unary_value Neg x v = negative_value x v
unary_value Not x v = known_unary_value Not x
unary_value Compl x v = known_unary_value Compl x
