-- When a step is made: what it does, where what it names stands, and where its variables did
-- before it.
use Rattle.std.specs.Prelude.{◌≡◌, true, List, [], ◌∷◌, map, slice_set}
use Rattle.cir_ast.specs.declared.program.Meant.{Meant}
use Rattle.cir_ast.specs.declared.program.Spot.{Spot}
use Rattle.cir_ast.specs.Tree.{Expr, as_accessors, bare, bare_argument}
use Rattle.cir_meaning.specs.Arrays.{Datum, Whole}
use Rattle.cir_meaning.specs.Evaluate.{value_in}
use Rattle.cir_meaning.specs.Frame.{Context, State, uncounted}
use Rattle.cir_meaning.specs.Run.{known_value}
use Rattle.cir_meaning.specs.Tried.{Where}
use Rattle.cir_arrays.specs.Shown.{datum_of}
use Rattle.cir_frame.specs.declared.frame.Frame.{Frame}
use Rattle.cir_assign.specs.Given.{given_by}
use Rattle.cir_execute.specs.Rests.{rest_by}
use Rattle.cir_steps.specs.Emission.{Emission, known_in}
use Rattle.cir_steps.specs.Step as S
use Rattle.cir_steps.specs.Step.{Work, Valuing, Assigning, Comparing, Asserting, Logging, Deciding}
use Rattle.cir_make.specs.declared.make.Before.{Before}
use Rattle.cir_make.specs.declared.make.Doing.{Doing}
use Rattle.cir_make.specs.declared.make.Doing.TheVariants as doing
use Rattle.cir_make.specs.declared.make.Elements.{Elements}

abbrev pub elements_of : Elements → S.Elements
elements_of e = record { variable = e.variable; count = e.count }

abbrev pub work_of : Spot → Doing → Work
work_of spot (doing.Gives e) = Valuing (bare e.now)
work_of spot (doing.Compares a b) = Comparing (bare a.now) (bare b.now)
work_of spot (doing.Asserts e) = Asserting (bare e.now)
work_of spot (doing.Logs arguments) = Logging (map bare_argument arguments.now)
work_of spot (doing.Sets w places) =
    Assigning w.now.variable (as_accessors w.now.accessors.now) (given_by w.now.given) places.now
work_of spot (doing.Decides rest wanted) =
    Deciding (rest_by spot rest.now) (map elements_of wanted.now)

-- the variables, where these had other values before
abbrev pub put_before : List Before → List Datum → List Datum
put_before [] ds = ds
put_before (b ∷ bs) ds = put_before bs (slice_set ds b.variable (datum_of b.value))

-- `s` is where the step stands, and `f` the frame before it, of which only variables were other
pub record StandsBehind (f : Frame) (x : Emission) (s : State) (befores : List Before)
    : Type 0 where
  pub shown : (known_in x).frame.variables ≡ map datum_of f.variables.items
  pub variables : (known_in x).frame.variables ≡ put_before befores s.frame.variables
  pub signals : (known_in x).frame.signals ≡ s.frame.signals
  pub parts : (known_in x).frame.parts ≡ s.frame.parts

-- the calls of a step that have their values already are those that have them where it stands
abbrev pub IsKnownAt : Context → Where → State → S.Step → Type 0
IsKnownAt k w s step =
    (e : Expr Meant) → step.names.known e ≡ known_value (value_in k w true Whole e (uncounted s))
