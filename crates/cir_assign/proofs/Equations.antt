-- `===`, in parts.
use Rattle.std.proofs.Common.{◌≡◌, false, Ok, ap, ◌∙◌}
use Rattle.cir_ast.specs.declared.program.Meant.{Meant}
use Rattle.cir_ast.specs.Tree.{Expr}
use Rattle.cir_meaning.specs.Tried.{Where, Tried, next}
use Rattle.cir_meaning.specs.Arrays.{Datum, Scalar, single}
use Rattle.cir_meaning.specs.Values.{Value}
use Rattle.cir_meaning.specs.Frame.{State, Context}
use Rattle.cir_meaning.specs.Evaluate.{scalar, value_in}
use Rattle.cir_meaning.specs.Writing.{constrained}
use Rattle.cir_meaning.specs.Steps.{equal_cost, stepped}
use Rattle.cir_meaning.specs.Simple.{equal}

pub equal_goes : (k : Context) (w : Where) (a b : Expr Meant) (s s1 s2 : State) (x y : Value)
    → value_in k w false Scalar a s ≡ Ok (single x, s1)
    → value_in k w false Scalar b s1 ≡ Ok (single y, s2)
    → equal k w a b s ≡ next (constrained k w x y s2)
    (λ s3. stepped k w (equal_cost k w a b s) 0 s3)
equal_goes k w a b s s1 s2 x y p q =
    ap (λ (z : Tried (Datum × State)). scalar z (λ x s1. scalar (value_in k w false Scalar b s1)
    (λ y s2. next (constrained k w x y s2) (λ s3. stepped k w (equal_cost k w a b s) 0 s3)))) p
    ∙ ap (λ (z : Tried (Datum × State)). scalar z
    (λ y s2. next (constrained k w x y s2) (λ s3. stepped k w (equal_cost k w a b s) 0 s3))) q
