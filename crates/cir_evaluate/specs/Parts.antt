-- What the code evaluates in parts, as the meaning has it.
use Rattle.std.specs.Prelude.{◌≡◌, ℕ, Bool, true, List, Option, Some, None, Result, Ok, Err}
use Rattle.cir_ast.specs.declared.program.Meant.{Meant}
use Rattle.cir_ast.specs.Tree.{Expr, Accessors}
use Rattle.cir_meaning.specs.Tried.{Where, Tried, next}
use Rattle.cir_meaning.specs.Arrays.{Datum, Want, Scalar}
use Rattle.cir_meaning.specs.Operators as O
use Rattle.cir_meaning.specs.Frame.{Context, State}
use Rattle.cir_meaning.specs.Reading.{read_origin}
use Rattle.cir_meaning.specs.Evaluate.{value_in, looked_at, answered}
use Rattle.cir_arrays.specs.declared.stop.Fault.{Fault}
use Rattle.cir_arrays.specs.Stopped.{IsRefusal}
use Rattle.cir_frame.specs.Read.{origin_from}
use Rattle.cir_evaluate.specs.declared.operands.Operator.{Operator}
use Rattle.cir_evaluate.specs.declared.operands.Operator.TheVariants as operator
use Rattle.cir_evaluate.specs.declared.operands.Look.{Look}
use Rattle.cir_evaluate.specs.declared.operands.Look.TheVariants as look
use Rattle.cir_evaluate.specs.declared.evaluate.Located.{Located}

abbrev pub operator_by : Operator → O.Operator
operator_by (operator.Strict op) = O.Strict op
operator_by operator.And = O.And
operator_by operator.Or = O.Or

-- whether an operand is looked at, and whether it is shaded then
abbrev pub look_shading : Look → Bool → Option Bool
look_shading look.Skipped shaded = None
look_shading look.Plain shaded = Some shaded
look_shading look.Dark shaded = Some true

abbrev pub looked_in : Context → Where → Bool → Look → Expr Meant → State → Tried (Datum × State)
looked_in k w shaded look e s =
    looked_at (look_shading look shaded) s (λ dark. value_in k w dark Scalar e s) answered

-- what is read is what the indices that are left mean in what the place is
abbrev pub Locates : Where → Bool → State → Result Located Fault → (Want → Tried (Datum × State))
    → Type 0
Locates w shaded s (Ok x) m =
    (want : Want) → m want
    ≡ next (read_origin w shaded want x.indices.items (origin_from x.source)) (λ d. Ok (d, s))
Locates w shaded s (Err f) m = (want : Want) → IsRefusal f (m want)

-- the indices, and the accessors that are left
abbrev pub indexed : List (Option ℕ) → Accessors Meant → State
    → Tried (List (Option ℕ) × (Accessors Meant × State))
indexed indices rest s = Ok (indices, (rest, s))
