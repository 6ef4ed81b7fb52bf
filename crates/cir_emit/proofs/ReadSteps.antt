-- Steps that write signals, assign variables, compare, assert and log read each cell that their
-- sources have, where the sources stand for what the code may read, and the tables tell the cells
-- of signals.
use Rattle.std.proofs.Common.{◌≡◌, ℕ, ◌<◌, List, [], ◌++◌, length, Some, None, Ok, true, false}
use Rattle.std.specs.Prelude.{slice_get}
use Rattle.std.specs.List.{AllByRecursion}
use Rattle.cir_ast.specs.declared.program.Meant.{Meant}
use Rattle.cir_ast.specs.declared.refusal.Kind.TheVariants.{ShapeDiffers}
use Rattle.cir_ast.specs.Tree.{Expr, Accessors, Assign, LogArgument}
use Rattle.cir_meaning.specs.Tried.{Where, Tried, next, needed}
use Rattle.cir_meaning.specs.Places.{numbers_from}
use Rattle.cir_meaning.specs.Arrays.{Datum, Scalar, Whole, same_dims}
use Rattle.cir_meaning.specs.Costs.{Made, cost_of}
use Rattle.cir_meaning.specs.Evaluate.{value_in}
use Rattle.cir_meaning.specs.Frame.{State, Context, Part}
use Rattle.cir_meaning.specs.Run.{RunPart}
use Rattle.cir_meaning.specs.Scoped.{Scope as Names}
use Rattle.cir_meaning.specs.Simple.{equal}
use Rattle.cir_meaning.specs.Statement.{log_values}
use Rattle.cir_meaning.specs.Steps.{signal_cost, variable_cost, equal_cost, assert_cost, log_cost}
use Rattle.cir_meaning.specs.Steps.{logged_cells}
use Rattle.cir_meaning.specs.Texts.{indices_of}
use Rattle.cir_meaning.specs.Writing.{SignalAssignment, signal_assignment, target_in}
use Rattle.cir_meaning.specs.Writing.{VariableAssignment, variable_assignment}
use Rattle.cir_meaning.proofs.FineValues.{FineContext, Fine}
use Rattle.cir_meaning.proofs.KnownCalls.{CallBoth}
use Rattle.cir_meaning.proofs.Likes.{CallKeeps, like_itself}
use Rattle.cir_meaning.proofs.Rows.{all_append}
use Rattle.cir_meaning.proofs.ScanPoints.{next_to}
use Rattle.cir_steps.specs.Step.{Step, Valuing, Assigning, Comparing, Asserting, Logging}
use Rattle.cir_steps.specs.Step.{variable_sources}
use Rattle.cir_steps.specs.Emission.{Emission, known_in, step_of}
use Rattle.cir_steps.specs.Making.{signal_targets, wiring, new_places, log_parts}
use Rattle.cir_steps.specs.Places.{HasNoMember}
use Rattle.cir_steps.proofs.ReadCells.{IsTabled}
use Rattle.cir_steps.proofs.Sized.{SizedCall}
use Rattle.wit_lower.specs.Homes.{Variable, Home, Homes, find}
use Rattle.wit_lower.specs.Sources.{Sources, scope_of, cells_read}
use Rattle.wit_lower.specs.Tasks.{logged}
use Rattle.wit_lower.proofs.Listed.{In}
use Rattle.cir_emit.specs.Reads.{expr_reads}
use Rattle.cir_emit.specs.Sourced.{IsThere, AreSourcesOf}
use Rattle.cir_emit.proofs.AssignedCells.{assigned_cells}
use Rattle.cir_emit.proofs.Cells.{IsCellRead}
use Rattle.cir_emit.proofs.Few.{cells_of_few}
use Rattle.cir_emit.proofs.Fitting.{ground_of, IsReady}
use Rattle.cir_emit.proofs.Lists.{all_front}
use Rattle.cir_emit.proofs.StepCells.{all_counted, value_cells, comparison_cells, line_cells}

abbrev pub AreReadAll : Step → Sources → Type 0
AreReadAll step sources = (c : ℕ) → In c (cells_read sources.list) → In c step.reads

module _ (k : Context) (keeps : CallKeeps k.call) (both : CallBoth k.call) (fine : FineContext k)
    (sized : SizedCall k.call) (w : Where) (x : Emission) (fine_state : Fine (known_in x))
    (runs : (j : ℕ) (p : Part) → slice_get (known_in x).frame.parts j ≡ Some p
    → (r : RunPart) × (slice_get x.cells.parts j ≡ Some r)) (tabled : IsTabled x) (scope : Names)
    (few : (n : ℕ) → scope.seen n ≡ true
    → n < length (variable_sources (known_in x).frame.variables x.sources)) (keys : List Made)
    (sources : Sources) where
  abbrev f : State
  f = known_in x

  abbrev homes : Homes
  homes = (scope_of sources).homes

  abbrev Ready : Step → Expr Meant → Type 0
  Ready step e = IsReady (IsThere step sources.components) scope keys sources [] homes e

  pub wiring_reads : (written : Assign Meant) (m : Meant) (accessors : Accessors Meant)
      (e : Expr Meant) (a : SignalAssignment) → signal_assignment k w m accessors e f ≡ Ok a
      → AreSourcesOf keys (wiring k w written accessors e a x) sources
      → Ready (wiring k w written accessors e a x) e
      → AreReadAll (wiring k w written accessors e a x) sources
  wiring_reads written m accessors e a is are ready =
      let one : (y : Datum × State) × (value_in k w false Whole e f ≡ Ok y)
      × (last y ≡ Ok a) = next_to (value_in k w false Whole e f) last a is in
      cells_of_few sources _ (wiring k w written accessors e a x).reads are.few
      (value_cells k keeps both fine sized w (signal_cost k w written accessors e f) (Valuing e)
      (signal_targets a x) None x fine_state runs tabled keys sources are scope few e Whole f one.0
      (like_itself f) fine_state ready one.1
      (all_front _ (cost_of k w false e f).reads _
      (all_counted k keeps both fine sized w (signal_cost k w written accessors e f) (Valuing e)
      (signal_targets a x) None x fine_state runs tabled keys sources are scope few)))
    where
      last : Datum × State → Tried SignalAssignment
      last y =
          next (target_in k w m accessors y.1) (λ (t, s2).
          needed (same_dims t.reach.left y.0.dims) w ShapeDiffers
          (Ok record { value = y.0; target = t; state = s2 }))

  abbrev comparing : Expr Meant → Expr Meant → Step
  comparing a b = step_of k w f (equal_cost k w a b f) (Comparing a b) [] None x

  pub comparison_reads : (a b : Expr Meant) (s : State) → equal k w a b f ≡ Ok s
      → AreSourcesOf keys (comparing a b) sources → Ready (comparing a b) a
      → Ready (comparing a b) b
      → AreReadAll (comparing a b) sources
  comparison_reads a b s is are ready_a ready_b =
      cells_of_few sources _ (comparing a b).reads are.few
      (comparison_cells k keeps both fine sized w (equal_cost k w a b f) (Comparing a b) [] None x
      fine_state runs tabled keys sources are scope few a b s ready_a ready_b is
      (all_counted k keeps both fine sized w (equal_cost k w a b f) (Comparing a b) [] None x
      fine_state runs tabled keys sources are scope few))

  abbrev asserting : Expr Meant → Step
  asserting e = step_of k w f (assert_cost k w e f) (Asserting e) [] None x

  pub assertion_reads : (e : Expr Meant) (y : Datum × State)
      → value_in k w false Scalar e f ≡ Ok y → AreSourcesOf keys (asserting e) sources
      → Ready (asserting e) e
      → AreReadAll (asserting e) sources
  assertion_reads e y is are ready =
      let reads : List _ = expr_reads (ground_of keys sources []) homes e in
      let Is = IsCellRead sources (asserting e).reads in
      cells_of_few sources _ (asserting e).reads are.few
      (all_append Is (reads ++ []) []
      (all_append Is reads []
      (value_cells k keeps both fine sized w (assert_cost k w e f) (Asserting e) [] None x
      fine_state runs tabled keys sources are scope few e Scalar f y (like_itself f) fine_state
      ready is (all_counted k keeps both fine sized w (assert_cost k w e f) (Asserting e) [] None x
      fine_state runs tabled keys sources are scope few)) tt) tt)

  abbrev logging : List (LogArgument Meant) → Step
  logging arguments =
      step_of k w f (log_cost k w arguments f) (Logging arguments)
      (numbers_from x.next (logged_cells arguments)) (Some (log_parts x.next arguments)) x

  pub line_reads : (arguments : List (LogArgument Meant)) (s : State)
      → log_values k w arguments f ≡ Ok s → AreSourcesOf keys (logging arguments) sources
      → AllByRecursion (Ready (logging arguments)) (logged arguments)
      → AreReadAll (logging arguments) sources
  line_reads arguments s is are ready =
      cells_of_few sources _ (logging arguments).reads are.few
      (line_cells k keeps both fine sized w (log_cost k w arguments f) (Logging arguments)
      (numbers_from x.next (logged_cells arguments)) (Some (log_parts x.next arguments)) x
      fine_state runs tabled keys sources are scope few arguments s ready is
      (all_counted k keeps both fine sized w (log_cost k w arguments f) (Logging arguments)
      (numbers_from x.next (logged_cells arguments)) (Some (log_parts x.next arguments)) x
      fine_state runs tabled keys sources are scope few))

  abbrev assigned : Assign Meant → ℕ → Accessors Meant → Expr Meant → VariableAssignment → Step
  assigned written n accessors e a =
      step_of k w f (variable_cost k w written n accessors e a f)
      (Assigning n accessors e (new_places n a))
      (numbers_from x.next (length (new_places n a))) None x

  pub assigned_reads : (written : Assign Meant) (n : ℕ) (h : Home) (accessors : Accessors Meant)
      (e : Expr Meant) (a : VariableAssignment) → find (Variable n) homes ≡ Some h
      → HasNoMember accessors → variable_assignment k w n accessors e f ≡ Ok a
      → AreSourcesOf keys (assigned written n accessors e a) sources
      → AllByRecursion (Ready (assigned written n accessors e a)) (indices_of accessors)
      → Ready (assigned written n accessors e a) e
      → AreReadAll (assigned written n accessors e a) sources
  assigned_reads written n h accessors e a found none is are indices ready =
      cells_of_few sources _ (assigned written n accessors e a).reads are.few
      (assigned_cells k keeps both fine sized w (variable_cost k w written n accessors e a f)
      (Assigning n accessors e (new_places n a))
      (numbers_from x.next (length (new_places n a))) None x fine_state runs tabled keys sources are
      scope few w.spot written n h accessors e a found none indices ready is
      (all_counted k keeps both fine sized w (variable_cost k w written n accessors e a f)
      (Assigning n accessors e (new_places n a))
      (numbers_from x.next (length (new_places n a))) None x fine_state runs tabled keys sources are
      scope few))
