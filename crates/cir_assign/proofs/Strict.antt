-- Operators of both operands, and values that are made of old ones.
use Rattle.std.proofs.Common.{◌≡◌, Bool, Ok, ap, ◌∙◌}
use Rattle.gold_field.specs.declared.operators.Op2.{Op2}
use Rattle.cir_ast.specs.declared.program.Meant.{Meant}
use Rattle.cir_ast.specs.declared.operators.Binary.{Binary as BinaryOperator}
use Rattle.cir_ast.specs.Tree.{Expr, Binary}
use Rattle.cir_meaning.specs.Tried.{Where, Tried, next}
use Rattle.cir_meaning.specs.Arrays.{Datum, Want, Scalar, single, the_item}
use Rattle.cir_meaning.specs.Values.{Value, result_of}
use Rattle.cir_meaning.specs.Operators.{Operator, Strict, operator_of, left_tells, shading, applied}
use Rattle.cir_meaning.specs.Operators.{divided_at}
use Rattle.cir_meaning.specs.Frame.{State, Context}
use Rattle.cir_meaning.specs.Evaluate.{scalar, answered, looked_at, value_in}

module _ (k : Context) (w : Where) (dark : Bool) (want : Want) where
  abbrev behind : Operator → Expr Meant → Value → State → Tried (Datum × State)
  behind p e x s1 =
      looked_at (shading (left_tells p x) dark) s1 (λ d. value_in k w d Scalar e s1) (λ y s2.
      next (applied w dark p x y) (λ v. answered v s2))

  -- both operands are looked at
  strict_value : (b : BinaryOperator) (op : Op2) (a e : Expr Meant) (s : State)
      → operator_of b ≡ Strict op → value_in k w dark want (Binary b a e) s
      ≡ scalar (value_in k w dark Scalar a s) (λ x s1. scalar (value_in k w dark Scalar e s1)
      (λ y s2. next (divided_at w dark (result_of op x y)) (λ v. answered v s2)))
  strict_value b op a e s h =
      ap (λ (p : Operator). scalar (value_in k w dark Scalar a s) (behind p e)) h

  -- where both are known
  pub strict_goes : (b : BinaryOperator) (op : Op2) (a e : Expr Meant) (s s1 s2 : State)
      (x y : Value) → operator_of b ≡ Strict op
      → value_in k w dark Scalar a s ≡ Ok (single x, s1)
      → value_in k w dark Scalar e s1 ≡ Ok (single y, s2)
      → value_in k w dark want (Binary b a e) s
      ≡ next (divided_at w dark (result_of op x y)) (λ v. answered v s2)
  strict_goes b op a e s s1 s2 x y h p q =
      strict_value b op a e s h
      ∙ ap (λ (z : Tried (Datum × State)). scalar z
      (λ x s1. scalar (value_in k w dark Scalar e s1)
      (λ y s2. next (divided_at w dark (result_of op x y)) (λ v. answered v s2)))) p
      ∙ ap (λ (z : Tried (Datum × State)). scalar z
      (λ y s2. next (divided_at w dark (result_of op x y)) (λ v. answered v s2))) q

  -- where the left one is
  pub strict_left : (b : BinaryOperator) (op : Op2) (a e : Expr Meant) (s s1 : State)
      (x : Value) → operator_of b ≡ Strict op
      → value_in k w dark Scalar a s ≡ Ok (single x, s1)
      → value_in k w dark want (Binary b a e) s
      ≡ next (value_in k w dark Scalar e s1) (λ (d, s2).
      next (divided_at w dark (result_of op x (the_item d))) (λ v. answered v s2))
  strict_left b op a e s s1 x h p =
      strict_value b op a e s h
      ∙ ap (λ (z : Tried (Datum × State)). scalar z
      (λ x s1. scalar (value_in k w dark Scalar e s1)
      (λ y s2. next (divided_at w dark (result_of op x y)) (λ v. answered v s2)))) p

  pub strict_first : (b : BinaryOperator) (op : Op2) (a e : Expr Meant) (s : State)
      → operator_of b ≡ Strict op → value_in k w dark want (Binary b a e) s
      ≡ next (value_in k w dark Scalar a s) (λ (x, s1). scalar (value_in k w dark Scalar e s1)
      (λ y s2. next (divided_at w dark (result_of op (the_item x) y)) (λ v. answered v s2)))
  strict_first b op a e s h = strict_value b op a e s h
