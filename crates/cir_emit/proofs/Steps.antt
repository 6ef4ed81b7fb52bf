-- Steps fit that write signals, assign variables, compare, assert and log, where they are made.
use Rattle.std.proofs.Common.{true, false, ◌≡◌, ℕ, ◌<◌, List, [], ◌∷◌, Option, Some, Ok, sym, subst}
use Rattle.std.specs.List.{AllByRecursion}
use Rattle.cir_ast.specs.declared.program.Spot.{Spot}
use Rattle.cir_ast.specs.declared.program.Meant.{Meant}
use Rattle.cir_ast.specs.declared.program.Meant.TheVariants as meant
use Rattle.cir_ast.specs.Tree.{Expr, Accessors, Set, Assigned, Assert, Ended, LogArgument, Words}
use Rattle.cir_ast.specs.Tree.{LogValue}
use Rattle.cir_meaning.specs.Tried.{Where, Tried, next}
use Rattle.cir_meaning.specs.Arrays.{Datum, Scalar, Whole, the_item}
use Rattle.cir_meaning.specs.Values.{Value}
use Rattle.cir_meaning.specs.Simple.{each, equal}
use Rattle.cir_meaning.specs.Statement.{log_values}
use Rattle.cir_meaning.specs.Statement as log
use Rattle.cir_meaning.specs.Steps.{stepped, equal_cost, log_cost, logged_cells}
use Rattle.cir_meaning.specs.Costs.{Cost, Made}
use Rattle.cir_meaning.specs.Frame.{State, Context, uncounted, Part}
use Rattle.cir_meaning.specs.Evaluate.{value_in}
use Rattle.cir_meaning.specs.Run.{known_value, RunPart}
use Rattle.cir_meaning.specs.Texts.{indices_of}
use Rattle.cir_meaning.specs.Writing.{VariableAssignment, variable_assignment, constrained}
use Rattle.cir_steps.specs.Step.{Work, LogPart, Step, variable_sources}
use Rattle.cir_steps.specs.Emission.{Emission, known_in, step_of}
use Rattle.wit_lower.specs.Homes.{Variable, Home, Homes, find, Name}
use Rattle.wit_lower.specs.Sources.{Sources, scope_of}
use Rattle.wit_lower.specs.Tasks.{Element, Gives, Equal, Logs, Executes, logged}
use Rattle.wit_lower.specs.Fits.{TestFits, SetFits}
use Rattle.wit_lower.specs.Steps.{StepFits, TargetsFit, AllTests}
use Rattle.cir_meaning.proofs.Good.{OnGood, good_is, good_weaker}
use Rattle.wit_lower.specs.Values.{shape_of}
use Rattle.cir_meaning.proofs.Likes.{CallKeeps, Like, like_itself}
use Rattle.cir_meaning.proofs.FineValues.{FineContext, Fine}
use Rattle.cir_meaning.proofs.KnownCalls.{CallBoth}
use Rattle.cir_emit.proofs.Standing.{IsStanding}
use Rattle.cir_emit.proofs.Fitting.{ground_of, IsReady, Accepted, accepted, test_fits, set_accepted}
use Rattle.cir_steps.specs.Places.{HasNoMember}
use Rattle.cir_emit.proofs.Emitted.{step_stands, from_itself}
use Rattle.cir_emit.proofs.Targets.{home_small}
use Rattle.cir_emit.specs.Sourced.{IsThere, AreSourcesOf}
use Rattle.cir_meaning.specs.Scoped.{Scope as Names, AreCallsMeant}
use Rattle.cir_steps.proofs.Sized.{SizedCall}
use Rattle.std.specs.Prelude.{slice_get, length}
use Rattle.cir_meaning.proofs.ScanPoints.{next_to}

module _ (k : Context) (keeps : CallKeeps k.call) (both : CallBoth k.call) (fine : FineContext k)
    (sized : SizedCall k.call) (w : Where) (cost : Cost) (work : Work) (targets : List ℕ)
    (line : Option (List LogPart)) (x : Emission) (fine_state : Fine (known_in x))
    (runs : (j : ℕ) (p : Part) → slice_get (known_in x).frame.parts j ≡ Some p
    → (r : RunPart) × (slice_get x.cells.parts j ≡ Some r)) (keys : List Made) (sources : Sources)
    (are : AreSourcesOf keys (step_of k w (known_in x) cost work targets line x) sources)
    (scope : Names) (few : (n : ℕ) → scope.seen n ≡ true
    → n < length (variable_sources (known_in x).frame.variables x.sources)) where
  abbrev f : State
  f = known_in x

  abbrev step : Step
  step = step_of k w f cost work targets line x

  abbrev variables : ℕ
  variables = length step.variables

  abbrev homes : Homes
  homes = (scope_of sources).homes

  abbrev There : Name → Type 0
  There = IsThere step sources.components

  stands : IsStanding There w f sources [] homes
  stands = step_stands k w cost work targets line x sources f f []
      (from_itself x homes) are.arrays are.components runs
      (home_small variables sources are.shapes)

  called_is : (e : Expr Meant) → AreCallsMeant scope e
      → sources.called e ≡ known_value (value_in k w true Whole e (uncounted f))
  called_is e is = are.called e

  abbrev pub Ready : Expr Meant → Type 0
  Ready e = IsReady There scope keys sources [] homes e

  pub value_fits : (e : Expr Meant) (y : Datum × State) → Ready e
      → value_in k w false Whole e f ≡ Ok y → StepFits keys sources variables (Gives e)
  value_fits e y ready e_is = record {
    shapes = are.shapes;
    list = are.list;
    fits = (good_is
        (Accepted k keeps both fine sized w f fine_state keys sources [] homes There stands
        scope few called_is Whole e)
        (value_in k w false Whole e f) y e_is
        (accepted k keeps both fine sized w f fine_state keys sources [] homes There stands
        scope few called_is e false Whole f
        (like_itself f) fine_state ready)).fits;
  }

  pub value_shape : (e : Expr Meant) → Ready e
      → OnGood (λ y. shape_of (ground_of keys sources []) homes e ≡ y.0.dims)
      (value_in k w false Whole e f)
  value_shape e ready =
      good_weaker
      (Accepted k keeps both fine sized w f fine_state keys sources [] homes There stands
      scope few called_is Whole e)
      (λ y. shape_of (ground_of keys sources []) homes e ≡ y.0.dims)
      (value_in k w false Whole e f)
      (accepted k keeps both fine sized w f fine_state keys sources [] homes There stands
      scope few called_is e false Whole f
      (like_itself f) fine_state ready) (λ y p. p.told.shape)

  -- a number that is wanted, in a state that differs in counts alone
  pub wanted_fits : (e : Expr Meant) (s : State) (y : Datum × State) → Like f s → Fine s → Ready e
      → value_in k w false Scalar e s ≡ Ok y
      → TestFits (ground_of keys sources []) homes e
  wanted_fits e s y l i ready e_is =
      test_fits k keeps both fine sized w f fine_state keys sources [] homes There stands
      scope few called_is e y
      (good_is (Accepted k keeps both fine sized w f fine_state keys sources [] homes There stands
      scope few called_is Scalar e)
      (value_in k w false Scalar e s) y e_is
      (accepted k keeps both fine sized w f fine_state keys sources [] homes There stands
      scope few called_is e false Scalar s l i
      ready))

  pub assertion_fits : (spot : Spot) (e : Expr Meant) (y : Datum × State) → Ready e
      → value_in k w false Scalar e f ≡ Ok y
      → StepFits keys sources variables (Executes (Assert spot e) [])
  assertion_fits spot e y ready e_is = record {
    shapes = are.shapes;
    list = are.list;
    fits = (wanted_fits e f y (like_itself f) fine_state ready e_is, tt);
  }

  -- behind an expression the state is alike
  abbrev IsAccepted : Expr Meant → Datum × State → Type 0
  IsAccepted = Accepted k keeps both fine sized w f fine_state keys sources [] homes There stands
      scope few called_is Scalar

  number_accepted : (e : Expr Meant) (s : State) (y : Datum × State) → Like f s → Fine s → Ready e
      → value_in k w false Scalar e s ≡ Ok y → IsAccepted e y
  number_accepted e s y l i ready e_is =
      good_is (IsAccepted e) (value_in k w false Scalar e s) y e_is
      (accepted k keeps both fine sized w f fine_state keys sources [] homes There stands
      scope few called_is e false Scalar s l i
      ready)

  pub comparison_fits : (a b : Expr Meant) (s : State) → Ready a → Ready b
      → equal k w a b f ≡ Ok s → StepFits keys sources variables (Equal a b)
  comparison_fits a b s ready_a ready_b is =
      let one : (y : Datum × State) × (value_in k w false Scalar a f ≡ Ok y)
      × (second y ≡ Ok s) = next_to (value_in k w false Scalar a f) second s is in
      let two : (z : Datum × State) × (value_in k w false Scalar b one.0.1 ≡ Ok z)
      × (third (the_item one.0.0) z ≡ Ok s) =
      next_to (value_in k w false Scalar b one.0.1) (third (the_item one.0.0)) s one.2 in
      let p : IsAccepted a one.0 =
      number_accepted a f one.0 (like_itself f) fine_state ready_a one.1 in record {
        shapes = are.shapes;
        list = are.list;
        fits = (
          wanted_fits a f one.0 (like_itself f) fine_state ready_a one.1,
          wanted_fits b one.0.1 two.0 p.like p.fine_state ready_b two.1,
        );
      }
    where
      third : Value → Datum × State → Tried State
      third v z =
          next (constrained k w v (the_item z.0) z.1)
          (λ s3. stepped k w (equal_cost k w a b f) 0 s3)

      second : Datum × State → Tried State
      second y = next (value_in k w false Scalar b y.1) (third (the_item y.0))

  tests_fit : (arguments : List (LogArgument Meant)) (s t : State) → Like f s → Fine s
      → AllByRecursion Ready (logged arguments) → each (log.logged k w) arguments s ≡ Ok t
      → AllTests (ground_of keys sources []) homes (logged arguments)
  tests_fit [] s t l i ready is = tt
  tests_fit (Words text ∷ rest) s t l i ready is = tests_fit rest s t l i ready is
  tests_fit (LogValue e ∷ rest) s t l i ready is =
      let one : (u : State) × (log.logged k w (LogValue e) s ≡ Ok u)
      × (each (log.logged k w) rest u ≡ Ok t) =
      next_to (log.logged k w (LogValue e) s) (each (log.logged k w) rest) t is in
      let two : (y : Datum × State) × (value_in k w false Scalar e s ≡ Ok y)
      × (behind y ≡ Ok one.0) = next_to (value_in k w false Scalar e s) behind one.0 one.1 in
      let same : two.0.1 ≡ one.0 = cc in
      let p : IsAccepted e two.0 = number_accepted e s two.0 l i ready.0 two.1 in (
        wanted_fits e s two.0 l i ready.0 two.1,
        tests_fit rest two.0.1 t p.like p.fine_state ready.1
            (subst (λ u. each (log.logged k w) rest u ≡ Ok t) (sym same) one.2),
      )
    where
      behind : Datum × State → Tried State
      behind y = Ok y.1

  pub line_fits : (arguments : List (LogArgument Meant)) (s : State)
      → AllByRecursion Ready (logged arguments) → log_values k w arguments f ≡ Ok s
      → StepFits keys sources variables (Logs (logged arguments))
  line_fits arguments s ready is =
      let one : (t : State) × (each (log.logged k w) arguments f ≡ Ok t) × (last t ≡ Ok s) =
      next_to (each (log.logged k w) arguments f) last s is in record {
        shapes = are.shapes;
        list = are.list;
        fits = tests_fit arguments f one.0 (like_itself f) fine_state ready one.1;
      }
    where
      last : State → Tried State
      last = stepped k w (log_cost k w arguments f) (logged_cells arguments)

  pub assignment_fits : (spot : Spot) (n : ℕ) (h : Home) (accessors : Accessors Meant)
      (e : Expr Meant)
      (elements : List Element) (a : VariableAssignment)
      → find (Variable n) homes ≡ Some h → n < variables → HasNoMember accessors
      → AllByRecursion Ready (indices_of accessors) → Ready e → TargetsFit homes elements
      → variable_assignment k w n accessors e f ≡ Ok a
      → StepFits keys sources variables
      (Executes (Ended spot (Assigned (Set [] (meant.Variable n) accessors e))) elements)
  assignment_fits spot n h accessors e elements a found below none indices ready fit is = record {
    shapes = are.shapes;
    list = are.list;
    fits = (
      (good_is (λ a. SetFits (λ m. m < variables) (ground_of keys sources []) homes n accessors e
          × Unit {0}) (variable_assignment k w n accessors e f) a is
          (set_accepted k keeps both fine sized w f fine_state keys sources [] homes There stands
          scope few called_is
          (λ a. Unit {0})
          (λ m. m < variables) n h accessors e false f
          (λ d r t. record { value = d; reach = r; state = t }) (λ d r t l i. tt) (like_itself f)
          fine_state found below none indices ready)).0,
      fit,
    );
  }
