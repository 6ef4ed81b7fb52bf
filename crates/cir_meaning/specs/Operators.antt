-- The operators of the tree, as operators on values.
use Rattle.std.specs.Prelude.{Bool, true, Option, Some, None, Ok, if◌then◌else◌}
use Rattle.gold_field.specs.declared.operators.Op1.{Op1}
use Rattle.gold_field.specs.declared.operators.Op1.TheVariants as op1
use Rattle.gold_field.specs.declared.operators.Op2.{Op2}
use Rattle.gold_field.specs.declared.operators.Op2.TheVariants as op2
use Rattle.cir_ast.specs.declared.operators.Unary.{Unary}
use Rattle.cir_ast.specs.declared.operators.Unary.TheVariants as unary
use Rattle.cir_ast.specs.declared.operators.Binary.{Binary}
use Rattle.cir_ast.specs.declared.operators.Binary.TheVariants as binary
use Rattle.cir_ast.specs.declared.operators.Compound.{Compound}
use Rattle.cir_ast.specs.declared.operators.Compound.TheVariants as compound
use Rattle.cir_ast.specs.declared.refusal.Kind.TheVariants.{ZeroDivisor}
use Rattle.cir_meaning.specs.Tried.{Where, Tried, refused}
use Rattle.cir_meaning.specs.Values.{Value, Opaque, Lazy, Decided, Right, Shaded, Side, First}
use Rattle.cir_meaning.specs.Values.{Second, Both, and_left, or_left, lazy_result, result_of}

abbrev pub unary_of : Unary → Op1
unary_of unary.Negate = op1.Neg
unary_of unary.Not = op1.Not
unary_of unary.Complement = op1.Compl

-- an operator of both operands, or `&&` or `||`, whose left side tells what becomes of the right
-- one
pub data Operator : Type 0 where
  Strict : Op2 → Operator
  And : Operator
  Or : Operator

abbrev pub operator_of : Binary → Operator
operator_of binary.Pow = Strict op2.Pow
operator_of binary.Mul = Strict op2.Mul
operator_of binary.Div = Strict op2.Div
operator_of binary.Quotient = Strict op2.Quot
operator_of binary.Remainder = Strict op2.Rem
operator_of binary.Add = Strict op2.Add
operator_of binary.Sub = Strict op2.Sub
operator_of binary.ShiftLeft = Strict op2.Shl
operator_of binary.ShiftRight = Strict op2.Shr
operator_of binary.BitAnd = Strict op2.And
operator_of binary.BitXor = Strict op2.Xor
operator_of binary.BitOr = Strict op2.Or
operator_of binary.Equal = Strict op2.Eq
operator_of binary.NotEqual = Strict op2.Ne
operator_of binary.Less = Strict op2.Lt
operator_of binary.LessEqual = Strict op2.Le
operator_of binary.Greater = Strict op2.Gt
operator_of binary.GreaterEqual = Strict op2.Ge
operator_of binary.And = And
operator_of binary.Or = Or

abbrev pub compound_of : Compound → Binary
compound_of compound.Pow = binary.Pow
compound_of compound.ShiftLeft = binary.ShiftLeft
compound_of compound.ShiftRight = binary.ShiftRight
compound_of compound.Add = binary.Add
compound_of compound.Sub = binary.Sub
compound_of compound.Mul = binary.Mul
compound_of compound.Div = binary.Div
compound_of compound.Quotient = binary.Quotient
compound_of compound.Remainder = binary.Remainder
compound_of compound.And = binary.BitAnd
compound_of compound.Or = binary.BitOr
compound_of compound.Xor = binary.BitXor

-- a known divisor 0 is refused, but in a shaded expression it is left to the run
abbrev pub divided_at : Where → (shaded : Bool) → Option Value → Tried Value
divided_at w shaded (Some v) = Ok v
divided_at w shaded None = if shaded then Ok Opaque else refused w ZeroDivisor

abbrev pub left_tells : Operator → Value → Lazy
left_tells (Strict op) x = Right
left_tells And x = and_left x
left_tells Or x = or_left x

abbrev pub applied : Where → Bool → Operator → Value → Value → Tried Value
applied w shaded (Strict op) x y = divided_at w shaded (result_of op x y)
applied w shaded And x y = Ok (lazy_result (and_left x) y)
applied w shaded Or x y = Ok (lazy_result (or_left x) y)

-- whether an operand is looked at, and whether it is shaded then
abbrev pub shading : Lazy → Bool → Option Bool
shading (Decided n) shaded = None
shading Right shaded = Some shaded
shading Shaded shaded = Some true

abbrev pub first_shading : Side → Bool → Option Bool
first_shading First shaded = Some shaded
first_shading Second shaded = None
first_shading Both shaded = Some true

abbrev pub second_shading : Side → Bool → Option Bool
second_shading First shaded = None
second_shading Second shaded = Some shaded
second_shading Both shaded = Some true
