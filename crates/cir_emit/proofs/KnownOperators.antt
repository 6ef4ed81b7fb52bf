-- An operator of which the result is known when it is compiled, by operands that are told, is told.
use Rattle.std.proofs.Common.{◌≡◌, ℕ, zero, suc, Bool, true, false, cond, Option, Some, None, Ok}
use Rattle.std.proofs.Common.{refl, sym, ap, ap₂, ◌∙◌, arith, inl, inr, ◌⊎◌, subst}
use Rattle.std.specs.Prelude.{◌==◌}
use Rattle.std.proofs.lemmas.Bool.{eqb-true, ne_eqb}
use Rattle.gold_field.specs.declared.operators.Op1.{Op1}
use Rattle.gold_field.specs.declared.operators.Op1.TheVariants.{Neg, Not, Compl}
use Rattle.gold_field.specs.declared.operators.Op2.{Op2}
use Rattle.gold_field.specs.declared.operators.Op2.TheVariants.{Add, Sub, Mul, Div, Quot, Rem, Pow}
use Rattle.gold_field.specs.declared.operators.Op2.TheVariants.{Shl, Shr, And as BitAnd, Xor}
use Rattle.gold_field.specs.declared.operators.Op2.TheVariants.{Or as BitOr, Lt, Le, Gt, Ge, Eq, Ne}
use Rattle.gold_field.specs.Operators.{unary_of as number_by, binary_of, inverse_of}
use Rattle.cir_lc.specs.Number.{Assignment, constant}
use Rattle.cir_meaning.specs.Tried.{Where, Tried, refused}
use Rattle.cir_meaning.specs.Values.{Value, Known, Linear, Quadratic, Opaque, IsValue, sum_of}
use Rattle.cir_meaning.specs.Values.{class_of, negative_of, difference_of, product_of, quotient_of}
use Rattle.cir_meaning.specs.Values.{known_of, power_of, divided, Decided, Right, lazy_result}
use Rattle.cir_meaning.specs.Values.{truth_of, result_of, unary_result, number_of, truth_number}
use Rattle.cir_meaning.specs.Values.{Side, First, Second, Both, side_of}
use Rattle.cir_meaning.specs.declared.class.Class.TheVariants as Class'
use Rattle.wit_lower.specs.Pieces.{decided}
use Rattle.cir_meaning.specs.Operators.{left_tells, shading, Operator, Strict, And, Or, applied}
use Rattle.cir_meaning.specs.Operators.{divided_at}
use Rattle.cir_ast.specs.declared.refusal.Kind.TheVariants.{ZeroDivisor}
use Rattle.wit_lower.specs.Known.{unary_known, power_known, strict_known, binary_known}
use Rattle.cir_meaning.proofs.NumberLaws.{numbers, unary_numbers}

-- a number that is known is told
abbrev pub Tells : Value → Option ℕ → Type 0
Tells x a = (m : ℕ) → x ≡ Known m → a ≡ Some m

some_assignment : Assignment
some_assignment = record { at = λ k. 1; one = refl; below = λ k. omega arith }

pub unary_told : (op : Op1) (x : Value) (a : Option ℕ) (v : ℕ) → IsValue x → Tells x a
    → unary_result op x ≡ Known v → unary_known (number_by op) a ≡ Some v
unfolding constant
unary_told op (Known k) a v i t e =
    ap (unary_known (number_by op)) (t k refl) ∙
    ap Some (unary_numbers some_assignment op (Known k) i (λ o. never op k o) ∙
    ap (λ y. number_of y some_assignment) e)
  where
    never : (op : Op1) (k : ℕ) → class_of (unary_result op (Known k)) ≡ Class'.Opaque → ⊥
    never Neg k e = cc
    never Not k e = cc
    never Compl k e = cc
unary_told Neg (Linear f) a v i t e = cc
unary_told Not (Linear f) a v i t e = cc
unary_told Compl (Linear f) a v i t e = cc
unary_told Neg (Quadratic p q r) a v i t e = cc
unary_told Not (Quadratic p q r) a v i t e = cc
unary_told Compl (Quadratic p q r) a v i t e = cc
unary_told Neg Opaque a v i t e = cc
unary_told Not Opaque a v i t e = cc
unary_told Compl Opaque a v i t e = cc

-- both operands are known
record BothKnown (x y : Value) : Type 0 where
  pub left : ℕ
  pub right : ℕ
  pub left_is : x ≡ Known left
  pub right_is : y ≡ Known right

known_both : (op : Op2) (x y : Value) (v : ℕ) → known_of op x y ≡ Known v → BothKnown x y
known_both op (Known j) (Known k) v e =
    record { left = j; right = k; left_is = refl; right_is = refl }
known_both op (Known j) (Linear g) v e = cc
known_both op (Known j) (Quadratic a b c) v e = cc
known_both op (Known j) Opaque v e = cc
known_both op (Linear f) y v e = cc
known_both op (Quadratic a b c) y v e = cc
known_both op Opaque y v e = cc

sum_both : (x y : Value) (v : ℕ) → sum_of x y ≡ Known v → BothKnown x y
sum_both (Known j) (Known k) v e =
    record { left = j; right = k; left_is = refl; right_is = refl }
sum_both (Known j) (Linear g) v e = cc
sum_both (Known j) (Quadratic a b c) v e = cc
sum_both (Known j) Opaque v e = cc
sum_both (Linear f) (Known k) v e = cc
sum_both (Linear f) (Linear g) v e = cc
sum_both (Linear f) (Quadratic a b c) v e = cc
sum_both (Linear f) Opaque v e = cc
sum_both (Quadratic a b c) (Known k) v e = cc
sum_both (Quadratic a b c) (Linear g) v e = cc
sum_both (Quadratic a b c) (Quadratic p q r) v e = cc
sum_both (Quadratic a b c) Opaque v e = cc
sum_both Opaque y v e = cc

product_both : (x y : Value) (v : ℕ) → product_of x y ≡ Known v → BothKnown x y
product_both (Known j) (Known k) v e =
    record { left = j; right = k; left_is = refl; right_is = refl }
product_both (Known j) (Linear g) v e = cc
product_both (Known j) (Quadratic a b c) v e = cc
product_both (Known j) Opaque v e = cc
product_both (Linear f) (Known k) v e = cc
product_both (Linear f) (Linear g) v e = cc
product_both (Linear f) (Quadratic a b c) v e = cc
product_both (Linear f) Opaque v e = cc
product_both (Quadratic a b c) (Known k) v e = cc
product_both (Quadratic a b c) (Linear g) v e = cc
product_both (Quadratic a b c) (Quadratic p q r) v e = cc
product_both (Quadratic a b c) Opaque v e = cc
product_both Opaque y v e = cc

difference_both : (x y : Value) (v : ℕ) → difference_of x y ≡ Known v → BothKnown x y
difference_both x (Known k) v e =
    let r : BothKnown x (negative_of (Known k)) = sum_both x (negative_of (Known k)) v e in
    record { left = r.left; right = k; left_is = r.left_is; right_is = refl }
difference_both x (Linear g) v e =
    let r : BothKnown x (negative_of (Linear g)) = sum_both x (negative_of (Linear g)) v e in
    absurd (never (r.right_is))
  where
    never : {f : Assignment → ℕ} {n : ℕ} → Linear f ≡ Known n → ⊥
    never e = cc
difference_both x (Quadratic a b c) v e =
    let r : BothKnown x (negative_of (Quadratic a b c)) =
    sum_both x (negative_of (Quadratic a b c)) v e in
    absurd (never (r.right_is))
  where
    never : {f g h : Assignment → ℕ} {n : ℕ} → Quadratic f g h ≡ Known n → ⊥
    never e = cc
difference_both x Opaque v e =
    let r : BothKnown x Opaque = sum_both x Opaque v e in absurd (never (r.right_is))
  where
    never : {n : ℕ} → Opaque ≡ Known n → ⊥
    never e = cc

quotient_both : (x y : Value) (v : ℕ) → quotient_of x y ≡ Known v → BothKnown x y
quotient_both x (Known k) v e =
    let r : BothKnown x (Known (inverse_of k)) = product_both x (Known (inverse_of k)) v e in
    record { left = r.left; right = k; left_is = r.left_is; right_is = refl }
quotient_both x (Linear g) v e = cc
quotient_both x (Quadratic a b c) v e = cc
quotient_both x Opaque v e = cc

divided_is : (y u : Value) (v : ℕ) → divided y u ≡ Some (Known v) → u ≡ Known v
divided_is (Known k) u v e = at (k == 0) e
  where
    at : (b : Bool) → cond b None (Some u) ≡ Some (Known v) → u ≡ Known v
    at true e = cc
    at false e = cc
divided_is (Linear f) u v e = cc
divided_is (Quadratic a b c) u v e = cc
divided_is Opaque u v e = cc

-- a power by 0, or one of known numbers
record ByZero (op : Op2) (y : Value) (v : ℕ) : Type 0 where
  pub power : op ≡ Pow
  pub right_is : y ≡ Known 0
  pub one : v ≡ 1

abbrev StrictBoth : Op2 → (x y : Value) → ℕ → Type 0
StrictBoth op x y v = ByZero op y v ⊎ BothKnown x y

known_one : (v : ℕ) → Known 1 ≡ Known v → v ≡ 1
known_one v e = let same : 1 ≡ v = cc in sym same

power_both : (x y : Value) (v : ℕ) → power_of x y ≡ Known v → StrictBoth Pow x y v
power_both (Known j) (Known k) v e =
    inr record { left = j; right = k; left_is = refl; right_is = refl }
power_both (Linear f) (Known k) v e = at (k == 0) (k == 1) (k == 2) refl e
  where
    at : (a b c : Bool) → (k == 0) ≡ a
        → cond a (Known 1) (cond b (Linear f) (cond c (product_of (Linear f) (Linear f))
        (known_of Pow (Linear f) (Known k)))) ≡ Known v → StrictBoth Pow (Linear f) (Known k) v
    at true b c ek e =
        inl record { power = refl; right_is = ap Known (eqb-true k 0 ek); one = known_one v e }
    at false true c ek e = cc
    at false false true ek e = cc
    at false false false ek e = cc
power_both (Quadratic p q r) (Known k) v e = at (k == 0) (k == 1) (k == 2) refl e
  where
    at : (a b c : Bool) → (k == 0) ≡ a
        → cond a (Known 1) (cond b (Quadratic p q r) (cond c (product_of (Quadratic p q r)
        (Quadratic p q r)) (known_of Pow (Quadratic p q r) (Known k)))) ≡ Known v
        → StrictBoth Pow (Quadratic p q r) (Known k) v
    at true b c ek e =
        inl record { power = refl; right_is = ap Known (eqb-true k 0 ek); one = known_one v e }
    at false true c ek e = cc
    at false false true ek e = cc
    at false false false ek e = cc
power_both Opaque (Known k) v e = cc
power_both x (Linear g) v e = cc
power_both x (Quadratic a b c) v e = cc
power_both x Opaque v e = cc

some_value : (u : Value) (v : ℕ) → Some u ≡ Some (Known v) → u ≡ Known v
some_value u v e = cc

strict_both : (op : Op2) (x y : Value) (v : ℕ) → result_of op x y ≡ Some (Known v)
    → StrictBoth op x y v
strict_both Add x y v e = inr (sum_both x y v (some_value _ v e))
strict_both Sub x y v e = inr (difference_both x y v (some_value _ v e))
strict_both Mul x y v e = inr (product_both x y v (some_value _ v e))
strict_both Div x y v e = inr (quotient_both x y v (divided_is y _ v e))
strict_both Quot x y v e = inr (known_both Quot x y v (divided_is y _ v e))
strict_both Rem x y v e = inr (known_both Rem x y v (divided_is y _ v e))
strict_both Pow x y v e = power_both x y v (some_value _ v e)
strict_both Shl x y v e = inr (known_both Shl x y v (some_value _ v e))
strict_both Shr x y v e = inr (known_both Shr x y v (some_value _ v e))
strict_both BitAnd x y v e = inr (known_both BitAnd x y v (some_value _ v e))
strict_both Xor x y v e = inr (known_both Xor x y v (some_value _ v e))
strict_both BitOr x y v e = inr (known_both BitOr x y v (some_value _ v e))
strict_both Lt x y v e = inr (known_both Lt x y v (some_value _ v e))
strict_both Le x y v e = inr (known_both Le x y v (some_value _ v e))
strict_both Gt x y v e = inr (known_both Gt x y v (some_value _ v e))
strict_both Ge x y v e = inr (known_both Ge x y v (some_value _ v e))
strict_both Eq x y v e = inr (known_both Eq x y v (some_value _ v e))
strict_both Ne x y v e = inr (known_both Ne x y v (some_value _ v e))

-- a binary operator
pair_number : (op : Op2) (m n v : ℕ) → IsValue (Known m) → IsValue (Known n)
    → result_of op (Known m) (Known n) ≡ Some (Known v) → binary_of op m n ≡ Some v
unfolding constant
pair_number op m n v i j e =
    numbers some_assignment op (Known m) (Known n) (Known v) i j e (λ o. never o)
  where
    never : Class'.Known ≡ Class'.Opaque → ⊥
    never e = cc

pair_told : (op : Op2) (m n v : ℕ) → IsValue (Known m) → IsValue (Known n)
    → result_of op (Known m) (Known n) ≡ Some (Known v)
    → strict_known op (Some m) (Some n) ≡ Some v
pair_told Pow m zero v i j e =
    ap Some (sym (known_one v (some_value (power_of (Known m) (Known 0)) v e)))
pair_told Pow m (suc n) v i j e = pair_number Pow m (suc n) v i j e
pair_told Add m n v i j e = pair_number Add m n v i j e
pair_told Sub m n v i j e = pair_number Sub m n v i j e
pair_told Mul m n v i j e = pair_number Mul m n v i j e
pair_told Div m n v i j e = pair_number Div m n v i j e
pair_told Quot m n v i j e = pair_number Quot m n v i j e
pair_told Rem m n v i j e = pair_number Rem m n v i j e
pair_told Shl m n v i j e = pair_number Shl m n v i j e
pair_told Shr m n v i j e = pair_number Shr m n v i j e
pair_told BitAnd m n v i j e = pair_number BitAnd m n v i j e
pair_told Xor m n v i j e = pair_number Xor m n v i j e
pair_told BitOr m n v i j e = pair_number BitOr m n v i j e
pair_told Lt m n v i j e = pair_number Lt m n v i j e
pair_told Le m n v i j e = pair_number Le m n v i j e
pair_told Gt m n v i j e = pair_number Gt m n v i j e
pair_told Ge m n v i j e = pair_number Ge m n v i j e
pair_told Eq m n v i j e = pair_number Eq m n v i j e
pair_told Ne m n v i j e = pair_number Ne m n v i j e

strict_told : (op : Op2) (x y : Value) (a b : Option ℕ) (v : ℕ) → IsValue x → IsValue y
    → Tells x a → Tells y b → result_of op x y ≡ Some (Known v) → strict_known op a b ≡ Some v
strict_told op x y a b v i j tx ty e =
    elim (strict_both op x y v e) [
      | inl z ↦
          ap (λ o. strict_known o a b) z.power ∙ ap (power_known a) (ty 0 z.right_is) ∙
          ap Some (sym z.one)
      | inr z ↦
          ap₂ (strict_known op) (tx z.left z.left_is) (ty z.right z.right_is) ∙
          pair_told op z.left z.right v (subst IsValue z.left_is i) (subst IsValue z.right_is j)
          (sym (ap₂ (result_of op) z.left_is z.right_is) ∙ e)
    ]

truth_told : (y : Value) (b : Option ℕ) (v : ℕ) → Tells y b → truth_of y ≡ Known v
    → unary_known truth_number b ≡ Some v
truth_told (Known k) b v t e =
    let same : truth_number k ≡ v = cc in ap (unary_known truth_number) (t k refl) ∙ ap Some same
truth_told (Linear f) b v t e = cc
truth_told (Quadratic p q r) b v t e = cc
truth_told Opaque b v t e = cc

-- where the right side isn't looked at, nothing is asked of it
pub binary_told : (w : Where) (shaded : Bool) (o : Operator) (x y : Value) (a b : Option ℕ)
    (v : ℕ) → IsValue x → Tells x a
    → (shading (left_tells o x) shaded ≡ None ⊎ (IsValue y × Tells y b))
    → applied w shaded o x y ≡ Ok (Known v) → binary_known o a b ≡ Some v
binary_told w shaded (Strict op) x y a b v i tx (inl e) h = cc
binary_told w shaded (Strict op) x y a b v i tx (inr (j, ty)) h =
    at (result_of op x y) refl h
  where
    dark : (t : Bool) → cond t (Ok Opaque) (refused w ZeroDivisor) ≡ Ok (Known v) → ⊥
    dark true e = cc
    dark false e = cc

    at : (r : Option Value) → result_of op x y ≡ r → divided_at w shaded r ≡ Ok (Known v)
        → strict_known op a b ≡ Some v
    at None er e = absurd (dark shaded e)
    at (Some u) er e =
        let same : u ≡ Known v = cc in
        strict_told op x y a b v i j tx ty (er ∙ ap Some same)
binary_told w shaded And (Known m) y a b v i tx right h =
    ap (λ o. binary_known And o b) (tx m refl) ∙ at (m == 0) right h
  where
    at : (t : Bool)
        → (shading (cond t (Decided 0) Right) shaded ≡ None ⊎ (IsValue y × Tells y b))
        → ◌≡◌ {A = Tried Value} (Ok (lazy_result (cond t (Decided 0) Right) y)) (Ok (Known v))
        → cond t (Some 0) (unary_known truth_number b) ≡ Some v
    at true right h = let same : 0 ≡ v = cc in ap Some same
    at false (inl e) h = cc
    at false (inr (j, ty)) h = let same : truth_of y ≡ Known v = cc in truth_told y b v ty same
binary_told w shaded And (Linear f) y a b v i tx right h = cc
binary_told w shaded And (Quadratic p q r) y a b v i tx right h = cc
binary_told w shaded And Opaque y a b v i tx right h = cc
binary_told w shaded Or (Known m) y a b v i tx right h =
    ap (λ o. binary_known Or o b) (tx m refl) ∙ at (m == 0) right h
  where
    at : (t : Bool)
        → (shading (cond t Right (Decided 1)) shaded ≡ None ⊎ (IsValue y × Tells y b))
        → ◌≡◌ {A = Tried Value} (Ok (lazy_result (cond t Right (Decided 1)) y)) (Ok (Known v))
        → cond t (unary_known truth_number b) (Some 1) ≡ Some v
    at false right h = let same : 1 ≡ v = cc in ap Some same
    at true (inl e) h = cc
    at true (inr (j, ty)) h = let same : truth_of y ≡ Known v = cc in truth_told y b v ty same
binary_told w shaded Or (Linear f) y a b v i tx right h = cc
binary_told w shaded Or (Quadratic p q r) y a b v i tx right h = cc
binary_told w shaded Or Opaque y a b v i tx right h = cc

-- an operand that is skipped when a program is compiled is skipped in the code
pub never_skips : (o : Operator) (x : Value) (a : Option ℕ) (shaded : Bool) → decided o a ≡ None
    → Tells x a → shading (left_tells o x) shaded ≡ None → ⊥
never_skips (Strict op) x a shaded d t e = cc
never_skips And (Known m) a shaded d t e = at (m == 0) (sym (ap (decided And) (t m refl)) ∙ d) e
  where
    at : (b : Bool) → cond {A = Option ℕ} b (Some 0) None ≡ None
        → shading (cond b (Decided 0) Right) shaded ≡ None → ⊥
    at true d e = cc
    at false d e = cc
never_skips And (Linear f) a shaded d t e = cc
never_skips And (Quadratic p q r) a shaded d t e = cc
never_skips And Opaque a shaded d t e = cc
never_skips Or (Known m) a shaded d t e = at (m == 0) (sym (ap (decided Or) (t m refl)) ∙ d) e
  where
    at : (b : Bool) → cond {A = Option ℕ} b None (Some 1) ≡ None
        → shading (cond b Right (Decided 1)) shaded ≡ None → ⊥
    at true d e = cc
    at false d e = cc
never_skips Or (Linear f) a shaded d t e = cc
never_skips Or (Quadratic p q r) a shaded d t e = cc
never_skips Or Opaque a shaded d t e = cc

-- where the code skips an operand, the result is told by the other
pub skipped_told : (w : Where) (shaded : Bool) (o : Operator) (x y : Value) (a b : Option ℕ)
    (n v : ℕ) → decided o a ≡ Some n → Tells x a → applied w shaded o x y ≡ Ok (Known v)
    → binary_known o a b ≡ Some v
skipped_told w shaded (Strict op) x y a b n v d t h = cc
skipped_told w shaded And (Known m) y a b n v d t h =
    ap (λ o. binary_known And o b) (t m refl) ∙
    at (m == 0) (sym (ap (decided And) (t m refl)) ∙ d) h
  where
    at : (c : Bool) → cond {A = Option ℕ} c (Some 0) None ≡ Some n
        → ◌≡◌ {A = Tried Value} (Ok (lazy_result (cond c (Decided 0) Right) y)) (Ok (Known v))
        → cond c (Some 0) (unary_known truth_number b) ≡ Some v
    at true d h = let same : 0 ≡ v = cc in ap Some same
    at false d h = cc
skipped_told w shaded And (Linear f) y a b n v d t h = cc
skipped_told w shaded And (Quadratic p q r) y a b n v d t h = cc
skipped_told w shaded And Opaque y a b n v d t h = cc
skipped_told w shaded Or (Known m) y a b n v d t h =
    ap (λ o. binary_known Or o b) (t m refl) ∙
    at (m == 0) (sym (ap (decided Or) (t m refl)) ∙ d) h
  where
    at : (c : Bool) → cond {A = Option ℕ} c None (Some 1) ≡ Some n
        → ◌≡◌ {A = Tried Value} (Ok (lazy_result (cond c Right (Decided 1)) y)) (Ok (Known v))
        → cond c (unary_known truth_number b) (Some 1) ≡ Some v
    at false d h = let same : 1 ≡ v = cc in ap Some same
    at true d h = cc
skipped_told w shaded Or (Linear f) y a b n v d t h = cc
skipped_told w shaded Or (Quadratic p q r) y a b n v d t h = cc
skipped_told w shaded Or Opaque y a b n v d t h = cc

-- the side that is chosen when a program is compiled
abbrev pub Matches : Option ℕ → Side → Type 0
Matches None First = ⊥
Matches None Second = ⊥
Matches None Both = Unit {0}
Matches (Some zero) First = ⊥
Matches (Some zero) Second = Unit {0}
Matches (Some zero) Both = Unit {0}
Matches (Some (suc m)) First = Unit {0}
Matches (Some (suc m)) Second = ⊥
Matches (Some (suc m)) Both = Unit {0}

open_side : (t : Option ℕ) → Matches t Both
open_side None = tt
open_side (Some zero) = tt
open_side (Some (suc m)) = tt

pub side_matches : (x : Value) (t : Option ℕ) → Tells x t → Matches t (side_of x)
side_matches (Known zero) t tells = subst (λ o. Matches o Second) (sym (tells 0 refl)) tt
side_matches (Known (suc m)) t tells =
    subst (λ o. Matches o (side_of (Known (suc m)))) (sym (tells (suc m) refl))
    (subst (λ b. Matches (Some (suc m)) (cond b Second First))
    (sym (ne_eqb (suc m) 0 (λ e. cc))) tt)
side_matches (Linear f) t tells = open_side t
side_matches (Quadratic p q r) t tells = open_side t
side_matches Opaque t tells = open_side t
