-- The number that an expression of a step has whatever the step reads: that of dimensions, of
-- indices of components, and of what skips an operand. It comes from numbers, from constant
-- elements of variables and from calls that have their value; a power by 0 is 1, whatever its base.
use Rattle.std.specs.Prelude.{ℕ, zero, ◌%◌, ◌==◌, ◌&&◌, if◌then◌else◌, List, [], ◌∷◌, ◌++◌, length}
use Rattle.std.specs.Prelude.{map, Option, Some, None}
use Rattle.std.specs.List.{list_any}
use Rattle.gold_field.specs.declared.gold.TheConstants.{P}
use Rattle.gold_field.specs.declared.operators.Op2.{Op2}
use Rattle.gold_field.specs.declared.operators.Op2.TheVariants.{Pow}
use Rattle.gold_field.specs.Operators.{unary_of as number_by, binary_of}
use Rattle.cir_ast.specs.declared.program.Meant.{Meant}
use Rattle.cir_ast.specs.declared.program.Meant.TheVariants as meant
use Rattle.cir_ast.specs.declared.program.Spot.{Spot}
use Rattle.cir_ast.specs.Tree.{Expr, Number, Place, Call, Anonymous, Parentheses, Array, Unary}
use Rattle.cir_ast.specs.Tree.{Binary, Choice, Accessors, done, index, member, Assigned, Statement}
use Rattle.cir_ast.specs.Tree.{Ended}
use Rattle.cir_meaning.specs.Places.{is_inside, all_known}
use Rattle.cir_meaning.specs.Operators.{Operator, Strict, And, Or, operator_of, unary_of}
use Rattle.cir_meaning.specs.Values.{truth_number}
use Rattle.cir_meaning.specs.RunValues.{Numbers, the_number}
use Rattle.cir_meaning.specs.Unknown.{writes, declares}
use Rattle.wit_lower.specs.Homes.{Variable, Home, find, offset}
use Rattle.wit_lower.specs.Sources.{Input, Constant, Cell, Sources, scope_of, input_of}

-- the variables whose numbers change while the statement is executed. An assignment alone reads
-- before it writes.
abbrev pub changes : Statement Spot Meant → List ℕ
changes (Ended spot (Assigned a)) = []
changes a = writes a ++ declares a

-- a call that has its value already, where that is one number
abbrev pub one_known : List ℕ → ℕ → Option ℕ
one_known [] n = Some n
one_known (d ∷ ds) n = None

abbrev pub called_known : Option Numbers → Option ℕ
called_known None = None
called_known (Some d) = one_known d.dims (the_number d)

abbrev pub constant_of : Option Input → Option ℕ
constant_of None = None
constant_of (Some (Constant v)) = Some v
constant_of (Some (Cell c)) = None

abbrev pub element_known : Sources → ℕ → Option Home → (indices : List ℕ) → Option ℕ
element_known sources n None indices = None
element_known sources n (Some h) indices =
    if (length indices == length h.dims) && is_inside h.dims (map Some indices)
    then constant_of (input_of (Variable n) sources.list (offset h.dims indices)) else None

abbrev pub variable_known : Sources → (changed : List ℕ) → Meant → Option (List ℕ) → Option ℕ
variable_known sources changed (meant.Variable n) (Some indices) =
    if list_any (λ m. m == n) changed then None
    else element_known sources n (find (Variable n) (scope_of sources).homes) indices
variable_known sources changed _ indices = None

abbrev pub unary_known : (ℕ → ℕ) → Option ℕ → Option ℕ
unary_known f None = None
unary_known f (Some m) = Some (f m)

abbrev pub both_known : Op2 → Option ℕ → Option ℕ → Option ℕ
both_known o None right = None
both_known o (Some m) None = None
both_known o (Some m) (Some n) = binary_of o m n

abbrev pub power_known : Option ℕ → Option ℕ → Option ℕ
power_known left (Some zero) = Some 1
power_known left right = both_known Pow left right

abbrev pub strict_known : Op2 → Option ℕ → Option ℕ → Option ℕ
strict_known Pow left right = power_known left right
strict_known o left right = both_known o left right

abbrev pub binary_known : Operator → Option ℕ → Option ℕ → Option ℕ
binary_known (Strict o) left right = strict_known o left right
binary_known And None right = None
binary_known And (Some m) right = if m == 0 then Some 0 else unary_known truth_number right
binary_known Or None right = None
binary_known Or (Some m) right = if m == 0 then unary_known truth_number right else Some 1

abbrev pub choice_known : Option ℕ → Option ℕ → Option ℕ → Option ℕ
choice_known None chosen other = None
choice_known (Some m) chosen other = if m == 0 then other else chosen

abbrev mutual
  pub number_known : Sources → (changed : List ℕ) → Expr Meant → Option ℕ
  number_known sources changed (Number n) = Some (n % P)
  number_known sources changed (Place name m accessors) =
      place_known sources changed m [] accessors
  number_known sources changed (Call parallel name m arguments) =
      called_known (sources.called (Call parallel name m arguments))
  number_known sources changed (Anonymous parallel name m arguments inputs) = None
  number_known sources changed (Parentheses e) = number_known sources changed e
  number_known sources changed (Array elements) = None
  number_known sources changed (Unary o a) =
      unary_known (number_by (unary_of o)) (number_known sources changed a)
  number_known sources changed (Binary o a b) =
      binary_known (operator_of o) (number_known sources changed a)
      (number_known sources changed b)
  number_known sources changed (Choice c a b) =
      choice_known (number_known sources changed c) (number_known sources changed a)
      (number_known sources changed b)

  pub place_known : Sources → (changed : List ℕ) → Meant → (indices : List (Option ℕ))
      → Accessors Meant → Option ℕ
  place_known sources changed m indices done = variable_known sources changed m (all_known indices)
  place_known sources changed m indices (index e rest) =
      place_known sources changed m (indices ++ number_known sources changed e ∷ []) rest
  place_known sources changed m indices (member name rest) = None
