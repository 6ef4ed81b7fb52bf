-- The operators' answers are numbers of the field.
use Rattle.std.proofs.Common.{◌≡◌, ℕ, ◌-◌, ◌*◌, ◌/◌, ◌%◌, ◌^◌, ◌<◌, Bool, true, false, cond, Some}
use Rattle.std.proofs.Common.{None, subst, arith}
use Rattle.std.specs.Prelude.{◌==◌, nat_le}
use Rattle.std.proofs.Math.Nat.{div-le_self, mod-le}
use Rattle.gold_field.specs.declared.gold.TheConstants.{P}
use Rattle.gold_field.specs.declared.operators.Op1.{Op1}
use Rattle.gold_field.specs.declared.operators.Op1.TheVariants.{Neg, Not, Compl}
use Rattle.gold_field.specs.declared.operators.Op2.{Op2}
use Rattle.gold_field.specs.declared.operators.Op2.TheVariants.{Add, Sub, Mul, Div, Quot, Rem, Pow}
use Rattle.gold_field.specs.declared.operators.Op2.TheVariants.{Shl, Shr, And, Xor, Or, Lt, Le, Gt}
use Rattle.gold_field.specs.declared.operators.Op2.TheVariants.{Ge, Eq, Ne}
use Rattle.gold_field.specs.Operators.{HALF, inverse_of, left, right, truth, unary_of, binary_of}

truth_below : (b : Bool) → truth b < P
truth_below true = omega arith
truth_below false = omega arith

either_below : (b : Bool) (m n : ℕ) → m < P → n < P → cond b m n < P
either_below true m n h k = h
either_below false m n h k = k

left_below : (a k : ℕ) → left a k < P
left_below a k = omega arith

right_below : (a k : ℕ) → a < P → right a k < P
right_below a k h = omega (arith, h, div-le_self a (2 ^ k))

rest_below : (a b : ℕ) → a < P → a % b < P
rest_below a b h = omega (arith, h, mod-le a b)

some_below : (m v : ℕ) → m < P → Some m ≡ Some v → v < P
some_below m v h e = let same : m ≡ v = cc in subst (λ n. n < P) same h

divided_below : (zero_divisor : Bool) (m v : ℕ) → m < P → cond zero_divisor None (Some m) ≡ Some v
    → v < P
divided_below true m v h e = cc
divided_below false m v h e = some_below m v h e

pub unary_below : (op : Op1) (a : ℕ) → unary_of op a < P
unary_below Neg a = omega arith
unary_below Not a = truth_below (a == 0)
unary_below Compl a = omega arith

pub binary_below : (op : Op2) (a b v : ℕ) → a < P → binary_of op a b ≡ Some v → v < P
binary_below Add a b v h e = some_below _ v (omega arith) e
binary_below Sub a b v h e = some_below _ v (omega arith) e
binary_below Mul a b v h e = some_below (a * b % P) v (omega arith) e
binary_below Div a b v h e = divided_below (b == 0) (a * inverse_of b % P) v (omega arith) e
binary_below Quot a b v h e = divided_below (b == 0) (a / b) v (omega (arith, h, div-le_self a b)) e
binary_below Rem a b v h e = divided_below (b == 0) (a % b) v (rest_below a b h) e
binary_below Pow a b v h e = some_below (a ^ b % P) v (omega arith) e
binary_below Shl a b v h e =
    some_below _ v (either_below (nat_le b HALF) _ _ (left_below a b) (right_below a (P - b) h)) e
binary_below Shr a b v h e =
    some_below _ v (either_below (nat_le b HALF) _ _ (right_below a b h) (left_below a (P - b))) e
binary_below And a b v h e = some_below _ v (omega arith) e
binary_below Xor a b v h e = some_below _ v (omega arith) e
binary_below Or a b v h e = some_below _ v (omega arith) e
binary_below Lt a b v h e = some_below _ v (truth_below _) e
binary_below Le a b v h e = some_below _ v (truth_below _) e
binary_below Gt a b v h e = some_below _ v (truth_below _) e
binary_below Ge a b v h e = some_below _ v (truth_below _) e
binary_below Eq a b v h e = some_below _ v (truth_below _) e
binary_below Ne a b v h e = some_below _ v (truth_below _) e
