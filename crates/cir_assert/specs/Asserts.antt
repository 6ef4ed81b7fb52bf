-- What the execution of an assertion leaves, and of a log line.
use Rattle.std.specs.Prelude.{◌≡◌, ◌++◌, false, List, [], ◌∷◌, None, Ok}
use Rattle.cir_ast.specs.declared.program.Meant.{Meant}
use Rattle.cir_ast.specs.Tree.{Expr}
use Rattle.cir_meaning.specs.Tried.{Where}
use Rattle.cir_meaning.specs.Arrays.{Scalar, single}
use Rattle.cir_meaning.specs.Costs.{Made as Key}
use Rattle.cir_meaning.specs.Values.{Value}
use Rattle.cir_meaning.specs.Frame.{Context, State}
use Rattle.cir_meaning.specs.Evaluate.{value_in}
use Rattle.cir_meaning.specs.Statement.{decided}
use Rattle.cir_meaning.specs.Steps.{assert_cost}
use Rattle.cir_steps.specs.Emission.{Emission, known_in, step_of}
use Rattle.cir_steps.specs.Step.{Asserting, Step}
use Rattle.cir_make.specs.declared.whole.Inside.{Inside}
use Rattle.cir_make.specs.declared.whole.Whole.{Whole}
use Rattle.cir_make.specs.Shows.{IsKept}

-- what isn't known is a step
abbrev pub assert_steps : Context → Where → Expr Meant → Value → Emission → List Step
assert_steps k w e v x =
    decided v [] []
    (step_of k w (known_in x) (assert_cost k w e (known_in x)) (Asserting e) [] None x ∷ [])

pub record IsAsserted (k : Context) (w : Where) (e : Expr Meant) (first : List Key) (i : Inside)
    (whole : Whole) (x : Emission) (steps : List Step) : Type 0 where
  pub value : Value
  pub state : State
  pub is : value_in k w false Scalar e (known_in x) ≡ Ok (single value, state)
  pub kept : IsKept first i.frame i.cells whole.made x (steps ++ assert_steps k w e value x)
