-- Each cell that the code of a step may read stands in the step's reads, of the steps that write
-- signals, compare, assert and log.
use Rattle.std.proofs.Common.{◌≡◌, ℕ, ◌<◌, List, [], ◌∷◌, ◌++◌, length, Option, Some, Ok, true}
use Rattle.std.proofs.Common.{false, subst, sym, flat_map}
use Rattle.std.specs.Prelude.{slice_get}
use Rattle.std.specs.List.{AllByRecursion}
use Rattle.cir_ast.specs.declared.program.Meant.{Meant}
use Rattle.cir_ast.specs.Tree.{Expr, LogArgument, Words, LogValue}
use Rattle.cir_meaning.specs.Tried.{Where, Tried, next}
use Rattle.cir_meaning.specs.Arrays.{Datum, Want, Scalar, Whole, the_item}
use Rattle.cir_meaning.specs.Values.{Value}
use Rattle.cir_meaning.specs.Costs.{Made, Cost, cost_of}
use Rattle.cir_meaning.specs.Evaluate.{value_in}
use Rattle.cir_meaning.specs.Frame.{State, Context, Part, uncounted}
use Rattle.cir_meaning.specs.Run.{RunPart, known_value}
use Rattle.cir_meaning.specs.Scoped.{Scope as Names, AreCallsMeant}
use Rattle.cir_meaning.specs.Simple.{equal, each}
use Rattle.cir_meaning.specs.Statement.{log_values}
use Rattle.cir_meaning.specs.Statement as log
use Rattle.cir_meaning.specs.Steps.{stepped, equal_cost, log_cost, arguments_cost, logged_cells}
use Rattle.cir_meaning.specs.Writing.{constrained}
use Rattle.cir_meaning.proofs.FineValues.{FineContext, Fine, FineAnswer, value_fine}
use Rattle.cir_meaning.proofs.Good.{good_is}
use Rattle.cir_meaning.proofs.KnownCalls.{CallBoth}
use Rattle.cir_meaning.proofs.Likes.{CallKeeps, Like, like_itself, value_like}
use Rattle.cir_meaning.proofs.Rows.{all_append}
use Rattle.cir_meaning.proofs.ScanPoints.{next_to}
use Rattle.cir_steps.specs.Step.{Work, LogPart, Step, variable_sources}
use Rattle.cir_steps.specs.Emission.{Emission, known_in, step_of}
use Rattle.cir_steps.proofs.ReadCells.{IsTabled}
use Rattle.cir_steps.proofs.Sized.{SizedCall}
use Rattle.wit_lower.specs.Homes.{Name, Homes, Ground}
use Rattle.wit_lower.specs.Sources.{Sources, scope_of}
use Rattle.wit_lower.specs.Tasks.{logged}
use Rattle.cir_emit.specs.Reads.{Reading, expr_reads}
use Rattle.cir_emit.specs.Sourced.{IsThere, AreSourcesOf}
use Rattle.cir_emit.proofs.Cells.{IsCellRead, IsRead, all_read, step_led}
use Rattle.cir_emit.proofs.Counted.{expr_led}
use Rattle.cir_emit.proofs.Emitted.{step_stands, from_itself}
use Rattle.cir_emit.proofs.Fitting.{ground_of, IsReady}
use Rattle.cir_emit.proofs.Lists.{all_front, all_back}
use Rattle.cir_emit.proofs.Standing.{IsStanding}
use Rattle.cir_emit.proofs.Targets.{home_small}

module _ (k : Context) (keeps : CallKeeps k.call) (both : CallBoth k.call) (fine : FineContext k)
    (sized : SizedCall k.call) (w : Where) (cost : Cost) (work : Work) (targets : List ℕ)
    (line : Option (List LogPart)) (x : Emission) (fine_state : Fine (known_in x))
    (runs : (j : ℕ) (p : Part) → slice_get (known_in x).frame.parts j ≡ Some p
    → (r : RunPart) × (slice_get x.cells.parts j ≡ Some r)) (tabled : IsTabled x)
    (keys : List Made) (sources : Sources)
    (are : AreSourcesOf keys (step_of k w (known_in x) cost work targets line x) sources)
    (scope : Names) (few : (n : ℕ) → scope.seen n ≡ true
    → n < length (variable_sources (known_in x).frame.variables x.sources)) where
  abbrev f : State
  f = known_in x

  abbrev step : Step
  step = step_of k w f cost work targets line x

  abbrev variables : ℕ
  variables = length step.variables

  abbrev homes : Homes
  homes = (scope_of sources).homes

  abbrev There : Name → Type 0
  There = IsThere step sources.components

  abbrev g : Ground
  g = ground_of keys sources []

  abbrev Ready : Expr Meant → Type 0
  Ready e = IsReady There scope keys sources [] homes e

  abbrev pub AreCellsRead : List Reading → Type 0
  AreCellsRead reads = AllByRecursion (IsCellRead sources step.reads) reads

  abbrev Counts : Cost → Type 0
  Counts c =
      AllByRecursion (IsRead k w cost work targets line x sources are.arrays are.components runs
      (home_small variables sources are.shapes) tabled) c.reads

  pub all_counted : Counts cost
  all_counted =
      all_read k w cost work targets line x sources are.arrays are.components runs
      (home_small variables sources are.shapes) tabled

  stands : IsStanding There w f sources [] homes
  stands = step_stands k w cost work targets line x sources f f []
      (from_itself x homes) are.arrays are.components runs
      (home_small variables sources are.shapes)

  called_is : (e : Expr Meant) → AreCallsMeant scope e
      → sources.called e ≡ known_value (value_in k w true Whole e (uncounted f))
  called_is e is = are.called e

  -- an expression, in a state that differs in counts alone
  pub value_cells : (e : Expr Meant) (want : Want) (s : State) (y : Datum × State) → Like f s
      → Fine s → Ready e → value_in k w false want e s ≡ Ok y
      → Counts (cost_of k w false e f) → AreCellsRead (expr_reads g homes e)
  value_cells e want s y l i ready ey counts =
      expr_led k keeps both fine sized w f fine_state keys sources [] homes There stands scope few
      called_is _ (IsCellRead sources step.reads)
      (step_led k w cost work targets line x sources are.arrays are.components runs
      (home_small variables sources are.shapes) tabled) e false want s y l i ready.0.has ready.1
      ready.0.loaded ey counts

  -- behind an expression the state is alike
  pub behind_value : (e : Expr Meant) (want : Want) (s : State) (y : Datum × State) → Like f s
      → Fine s → value_in k w false want e s ≡ Ok y → Like f y.1 × Fine y.1
  behind_value e want s y l i ey =
      let answer : FineAnswer y =
      good_is FineAnswer (value_in k w false want e s) y ey
      (value_fine k fine w false want e s i) in (
        good_is (λ z. Like f z.1) (value_in k w false want e s) y ey
            (value_like f k keeps w false want e s l),
        answer.1,
      )

  pub comparison_cells : (a b : Expr Meant) (s : State) → Ready a → Ready b
      → equal k w a b f ≡ Ok s → Counts (equal_cost k w a b f)
      → AreCellsRead (expr_reads g homes a ++ expr_reads g homes b)
  comparison_cells a b s ready_a ready_b is counts =
      let one : (y : Datum × State) × (value_in k w false Scalar a f ≡ Ok y)
      × (second y ≡ Ok s) = next_to (value_in k w false Scalar a f) second s is in
      let two : (z : Datum × State) × (value_in k w false Scalar b one.0.1 ≡ Ok z)
      × (third (the_item one.0.0) z ≡ Ok s) =
      next_to (value_in k w false Scalar b one.0.1) (third (the_item one.0.0)) s one.2 in
      let p : Like f one.0.1 × Fine one.0.1 =
      behind_value a Scalar f one.0 (like_itself f) fine_state one.1 in
      all_append (IsCellRead sources step.reads) (expr_reads g homes a) (expr_reads g homes b)
      (value_cells a Scalar f one.0 (like_itself f) fine_state ready_a one.1
      (all_front _ (cost_of k w false a f).reads _ counts))
      (value_cells b Scalar one.0.1 two.0 p.0 p.1 ready_b two.1
      (all_back _ (cost_of k w false a f).reads _ counts))
    where
      third : Value → Datum × State → Tried State
      third v z =
          next (constrained k w v (the_item z.0) z.1)
          (λ s3. stepped k w (equal_cost k w a b f) 0 s3)

      second : Datum × State → Tried State
      second y = next (value_in k w false Scalar b y.1) (third (the_item y.0))

  arguments_cells : (arguments : List (LogArgument Meant)) (s t : State) → Like f s → Fine s
      → AllByRecursion Ready (logged arguments) → each (log.logged k w) arguments s ≡ Ok t
      → Counts (arguments_cost k w arguments f)
      → AreCellsRead (flat_map (expr_reads g homes) (logged arguments))
  arguments_cells [] s t l i ready is counts = tt
  arguments_cells (Words text ∷ rest) s t l i ready is counts =
      arguments_cells rest s t l i ready is counts
  arguments_cells (LogValue e ∷ rest) s t l i ready is counts =
      let one : (u : State) × (log.logged k w (LogValue e) s ≡ Ok u)
      × (each (log.logged k w) rest u ≡ Ok t) =
      next_to (log.logged k w (LogValue e) s) (each (log.logged k w) rest) t is in
      let two : (y : Datum × State) × (value_in k w false Scalar e s ≡ Ok y)
      × (behind y ≡ Ok one.0) = next_to (value_in k w false Scalar e s) behind one.0 one.1 in
      let same : two.0.1 ≡ one.0 = cc in
      let p : Like f two.0.1 × Fine two.0.1 = behind_value e Scalar s two.0 l i two.1 in
      all_append (IsCellRead sources step.reads) (expr_reads g homes e) _
      (value_cells e Scalar s two.0 l i ready.0 two.1
      (all_front _ (cost_of k w false e f).reads _ counts))
      (arguments_cells rest two.0.1 t p.0 p.1 ready.1
      (subst (λ u. each (log.logged k w) rest u ≡ Ok t) (sym same) one.2)
      (all_back _ (cost_of k w false e f).reads _ counts))
    where
      behind : Datum × State → Tried State
      behind y = Ok y.1

  pub line_cells : (arguments : List (LogArgument Meant)) (s : State)
      → AllByRecursion Ready (logged arguments) → log_values k w arguments f ≡ Ok s
      → Counts (log_cost k w arguments f)
      → AreCellsRead (flat_map (expr_reads g homes) (logged arguments))
  line_cells arguments s ready is counts =
      let one : (t : State) × (each (log.logged k w) arguments f ≡ Ok t) × (last t ≡ Ok s) =
      next_to (each (log.logged k w) arguments f) last s is in
      arguments_cells arguments f one.0 (like_itself f) fine_state ready one.1 counts
    where
      last : State → Tried State
      last = stepped k w (log_cost k w arguments f) (logged_cells arguments)
