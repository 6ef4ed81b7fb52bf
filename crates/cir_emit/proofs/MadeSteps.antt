-- Steps that write signals, assign variables, compare, assert and log are lowered and fit, where
-- they are made, whatever shows their sources.
use Rattle.std.proofs.Common.{◌≡◌, ℕ, ◌<◌, List, [], ◌∷◌, length, Some, None, Ok, ap, sym, false}
use Rattle.std.proofs.Common.{◌∙◌, flat_map, refl}
use Rattle.std.specs.Prelude.{slice_get, unwrap_or, true}
use Rattle.std.specs.List.{AllByRecursion}
use Rattle.cir_ast.specs.declared.program.Meant.{Meant}
use Rattle.cir_ast.specs.declared.refusal.Kind.TheVariants.{ShapeDiffers}
use Rattle.cir_ast.specs.Tree.{Expr, Accessors, Assign, LogArgument, Words, LogValue, done, index}
use Rattle.cir_ast.specs.Tree.{member}
use Rattle.cir_meaning.specs.Tried.{Where, Tried, next, needed}
use Rattle.cir_meaning.specs.Places.{elements, numbers_from}
use Rattle.cir_meaning.specs.Arrays.{Datum, Scalar, Whole, reach, same_dims, single}
use Rattle.cir_meaning.specs.Values.{Known}
use Rattle.cir_meaning.specs.Costs.{Made}
use Rattle.cir_meaning.specs.Frame.{State, Context, variable_at, Part}
use Rattle.cir_meaning.specs.Evaluate.{value_in}
use Rattle.cir_meaning.specs.Simple.{equal}
use Rattle.cir_meaning.specs.Statement.{log_values}
use Rattle.cir_meaning.specs.Steps.{signal_cost, variable_cost, equal_cost, assert_cost, log_cost}
use Rattle.cir_meaning.specs.Steps.{logged_cells}
use Rattle.cir_meaning.specs.Texts.{Wanted, indices_of, numbers_wanted}
use Rattle.cir_meaning.specs.Writing.{VariableAssignment, variable_assignment, SignalAssignment}
use Rattle.cir_meaning.specs.Writing.{signal_assignment, target_in}
use Rattle.cir_meaning.proofs.Good.{OnGood, good_ok, good_next, good_needed, good_is, good_on}
use Rattle.cir_steps.proofs.Sized.{SizedCall}
use Rattle.wit_lower.specs.Values.{shape_of, size_of}
use Rattle.wit_lower.specs.Homes.{Name, slots_of, Variable, Home, Homes, Ground, find}
use Rattle.wit_lower.specs.Steps.{count_of, StepFits}
use Rattle.cir_emit.specs.Lowered.{lowered_ground, IsLoaded, IsLoweredStep}
use Rattle.cir_emit.proofs.Lists.{map_long, all_front, all_back, all_mapped, all_flat}
use Rattle.cir_emit.proofs.WiringCount.{all_written}
use Rattle.cir_emit.proofs.Steps.{value_shape, value_fits, assertion_fits, comparison_fits}
use Rattle.cir_emit.proofs.Steps.{line_fits, assignment_fits}
use Rattle.cir_steps.specs.Emission.{wire_cell, ports_of, Emission, known_in, step_of}
use Rattle.cir_steps.specs.Making.{written_elements, signal_targets, wiring, new_places, log_parts}
use Rattle.cir_meaning.proofs.Likes.{CallKeeps, Like, like_itself, value_like, valued_like}
use Rattle.cir_meaning.proofs.FineValues.{FineContext, Fine}
use Rattle.cir_meaning.proofs.KnownCalls.{CallBoth}
use Rattle.cir_meaning.proofs.ScanPoints.{next_to}
use Rattle.cir_meaning.proofs.ValueKeepings.{indices_kept}
use Rattle.cir_steps.specs.Step.{Step, Valuing, Assigning, Comparing, Asserting, Logging}
use Rattle.cir_steps.specs.Step.{variable_sources}
use Rattle.wit_lower.specs.Sources.{Sources, scope_of}
use Rattle.wit_lower.specs.Tasks.{logged, Gives}
use Rattle.cir_emit.specs.Reads.{Reading, expr_reads}
use Rattle.cir_emit.specs.Tasks.{step_task}
use Rattle.cir_emit.proofs.Reached.{Reaches, reach_told}
use Rattle.cir_emit.proofs.Fitting.{ground_of, IsReady}
use Rattle.cir_steps.specs.Places.{HasNoMember}
use Rattle.cir_emit.proofs.Emitted.{sources_beside}
use Rattle.cir_emit.proofs.Targets.{written_fit, home_small, home_below, elements_are, reach_less}
use Rattle.cir_ast.specs.declared.program.Meant.TheVariants as meant
use Rattle.cir_meaning.specs.Scoped.{Scope as Names, AreCallsMeant, AreIndicesMeant, IsSetMeant}
use Rattle.cir_meaning.specs.Scoped.{IsArgumentMeant}
use Rattle.cir_meaning.specs.Run.{RunPart}
use Rattle.cir_emit.specs.Sourced.{IsThere, HasAll, AreSourcesOf}
use Rattle.cir_emit.proofs.Counts.{assigned_count, logged_count}
use Rattle.cir_emit.proofs.ReadSteps.{AreReadAll, wiring_reads, comparison_reads, assertion_reads}
use Rattle.cir_emit.proofs.ReadSteps.{line_reads, assigned_reads}
use Rattle.cir_steps.proofs.ReadCells.{IsTabled}

-- whatever its sources are, the step is lowered with them, and fits
abbrev pub IsSound : Step → Type 0
IsSound step =
    (keys : List Made) (sources : Sources) → AreSourcesOf keys step sources
    → IsLoweredStep keys step sources
    × StepFits keys sources (length step.variables) (step_task step)

pub lowered_step : (keys : List Made) (step : Step) (sources : Sources)
    → AreSourcesOf keys step sources → AreReadAll step sources
    → count_of (lowered_ground keys step sources) (scope_of sources).homes (step_task step)
    ≡ length step.targets
    → IsLoweredStep keys step sources
lowered_step keys step sources are reads count = record {
  arrays = are.arrays;
  outside = are.components.outside;
  called = are.called;
  loaded = are.loaded;
  reads = reads;
  count = count;
}

-- what is logged is in scope where the arguments are
logged_meant : (scope : Names) (arguments : List (LogArgument Meant))
    → AllByRecursion (IsArgumentMeant scope) arguments
    → AllByRecursion (AreCallsMeant scope) (logged arguments)
logged_meant scope [] h = tt
logged_meant scope (Words text ∷ rest) h = logged_meant scope rest h.1
logged_meant scope (LogValue e ∷ rest) h = (h.0, logged_meant scope rest h.1)

indices_meant : (scope : Names) (accessors : Accessors Meant) → AreIndicesMeant scope accessors
    → AllByRecursion (AreCallsMeant scope) (indices_of accessors)
indices_meant scope done h = tt
indices_meant scope (index e rest) h = (h.0, indices_meant scope rest h.1)
indices_meant scope (member name rest) h = indices_meant scope rest h

module _ (k : Context) (keeps : CallKeeps k.call) (both : CallBoth k.call) (fine : FineContext k)
    (sized : SizedCall k.call) (w : Where) (x : Emission) (fine_state : Fine (known_in x))
    (runs : (j : ℕ) (p : Part) → slice_get (known_in x).frame.parts j ≡ Some p
    → (r : RunPart) × (slice_get x.cells.parts j ≡ Some r)) (tabled : IsTabled x) (scope : Names)
    (few : (n : ℕ) → scope.seen n ≡ true
    → n < length (variable_sources (known_in x).frame.variables x.sources)) where
  abbrev f : State
  f = known_in x

  -- a signal is written; the code writes as many numbers as the step has targets
  module _ (written : Assign Meant) (m : Meant) (accessors : Accessors Meant) (e : Expr Meant)
      (a : SignalAssignment) (is : signal_assignment k w m accessors e f ≡ Ok a)
      (meant_e : AreCallsMeant scope e) (keys : List Made) (sources : Sources)
      (are : AreSourcesOf keys (wiring k w written accessors e a x) sources) where
    abbrev homes : Homes
    homes = (scope_of sources).homes

    abbrev g : Ground
    g = ground_of keys sources []

    ready : IsReady (IsThere (wiring k w written accessors e a x) sources.components) scope keys
        sources [] homes e
    ready = (record { has = are.has; loaded = are.loaded }, meant_e)

    abbrev last : Datum × State → Tried SignalAssignment
    last y =
        next (target_in k w m accessors y.1) (λ (t, s2).
        needed (same_dims t.reach.left y.0.dims) w ShapeDiffers
        (Ok record { value = y.0; target = t; state = s2 }))

    wiring_fits : StepFits keys sources
        (length (variable_sources (known_in x).frame.variables x.sources)) (Gives e)
    wiring_fits =
        let one : (y : Datum × State) × (value_in k w false Whole e f ≡ Ok y)
        × (last y ≡ Ok a) = next_to (value_in k w false Whole e f) last a is in
        value_fits k keeps both fine sized w (signal_cost k w written accessors e f) (Valuing e)
        (signal_targets a x) None x fine_state runs keys sources are scope few e one.0 ready one.1

    abbrev Shaped' : SignalAssignment → Type 0
    Shaped' b = shape_of g homes e ≡ b.value.dims

    wiring_shape : shape_of g homes e ≡ a.value.dims
    wiring_shape =
        good_is Shaped' (signal_assignment k w m accessors e f) a is
        (good_next (λ y. shape_of g homes e ≡ y.0.dims) Shaped' (value_in k w false Whole e f) _
        (value_shape k keeps both fine sized w (signal_cost k w written accessors e f) (Valuing e)
        (signal_targets a x) None x fine_state runs keys sources are scope few e ready) (λ y p.
        good_on Shaped' (target_in k w m accessors y.1) _ (λ t.
        good_needed Shaped' (same_dims t.0.reach.left y.0.dims) w ShapeDiffers _ (good_ok Shaped'
        record { value = y.0; target = t.0; state = t.1 } p))))

    wiring_count : size_of g homes e ≡ length (signal_targets a x)
    wiring_count =
        ap slots_of wiring_shape ∙
        sym (map_long (wire_cell (ports_of a.target.part x) a.target.number)
        (written_elements a.target.reach.places a.value.items) ∙
        all_written k w sized m accessors e f a is)

  pub wiring_sound : (written : Assign Meant) (m : Meant) (accessors : Accessors Meant)
      (e : Expr Meant) (a : SignalAssignment) → signal_assignment k w m accessors e f ≡ Ok a
      → AreCallsMeant scope e → IsSound (wiring k w written accessors e a x)
  wiring_sound written m accessors e a is meant_e keys sources are = (
    lowered_step keys (wiring k w written accessors e a x) sources are
        (wiring_reads k keeps both fine sized w x fine_state runs tabled scope few keys sources
        written m accessors e a is are (ready written m accessors e a is meant_e keys sources are))
        (wiring_count written m accessors e a is meant_e keys sources are),
    wiring_fits written m accessors e a is meant_e keys sources are,
  )

  -- a comparison
  abbrev comparing : Expr Meant → Expr Meant → Step
  comparing a b = step_of k w f (equal_cost k w a b f) (Comparing a b) [] None x

  module _ (a b : Expr Meant) (meant_a : AreCallsMeant scope a) (meant_b : AreCallsMeant scope b)
      (keys : List Made) (sources : Sources) (are : AreSourcesOf keys (comparing a b) sources) where
    ready_a : IsReady (IsThere (comparing a b) sources.components) scope keys sources []
        (scope_of sources).homes a
    ready_a = (
      record {
        has = are.has.0;
        loaded = all_front (IsLoaded sources) (expr_reads _ _ a) (expr_reads _ _ b) are.loaded;
      },
      meant_a,
    )

    ready_b : IsReady (IsThere (comparing a b) sources.components) scope keys sources []
        (scope_of sources).homes b
    ready_b = (
      record {
        has = are.has.1;
        loaded = all_back (IsLoaded sources) (expr_reads _ _ a) (expr_reads _ _ b) are.loaded;
      },
      meant_b,
    )

  pub comparison_sound : (a b : Expr Meant) (s : State) → equal k w a b f ≡ Ok s
      → AreCallsMeant scope a → AreCallsMeant scope b → IsSound (comparing a b)
  comparison_sound a b s is meant_a meant_b keys sources are = (
    lowered_step keys (comparing a b) sources are
        (comparison_reads k keeps both fine sized w x fine_state runs tabled scope few keys sources
        a b s is are (ready_a a b meant_a meant_b keys sources are)
        (ready_b a b meant_a meant_b keys sources are)) refl,
    comparison_fits k keeps both fine sized w (equal_cost k w a b f) (Comparing a b) [] None x
        fine_state runs keys sources are scope few a b s
        (ready_a a b meant_a meant_b keys sources are)
        (ready_b a b meant_a meant_b keys sources are) is,
  )

  -- an assertion
  abbrev asserting : Expr Meant → Step
  asserting e = step_of k w f (assert_cost k w e f) (Asserting e) [] None x

  asserted_ready : (e : Expr Meant) (keys : List Made) (sources : Sources)
      → AreSourcesOf keys (asserting e) sources → AreCallsMeant scope e
      → IsReady (IsThere (asserting e) sources.components) scope keys sources []
      (scope_of sources).homes e
  asserted_ready e keys sources are meant_e =
      let reads : Wanted → List Reading = λ v. expr_reads (ground_of keys sources [])
      (scope_of sources).homes v.expr in
      let all : List Wanted = record { want = Scalar; expr = e } ∷ [] in (
        record {
          has = are.has.0;
          loaded = (all_flat (IsLoaded sources) reads all
              (all_front (IsLoaded sources) (flat_map reads all) _ are.loaded)).0;
        },
        meant_e,
      )

  pub assertion_sound : (e : Expr Meant) (y : Datum × State) → value_in k w false Scalar e f ≡ Ok y
      → AreCallsMeant scope e → IsSound (asserting e)
  assertion_sound e y is meant_e keys sources are = (
    lowered_step keys (asserting e) sources are
        (assertion_reads k keeps both fine sized w x fine_state runs tabled scope few keys sources
        e y is are (asserted_ready e keys sources are meant_e)) refl,
    assertion_fits k keeps both fine sized w (assert_cost k w e f) (Asserting e) [] None x
        fine_state runs keys sources are scope few w.spot e y
        (asserted_ready e keys sources are meant_e) is,
  )

  -- a log line
  all_ready : (There : Name → Type 0) (keys : List Made) (sources : Sources)
      (es : List (Expr Meant))
      → AllByRecursion (HasAll There (ground_of keys sources []) (scope_of sources).homes) es
      → AllByRecursion (λ e. AllByRecursion (IsLoaded sources) (expr_reads
      (ground_of keys sources []) (scope_of sources).homes e)) es
      → AllByRecursion (AreCallsMeant scope) es
      → AllByRecursion (IsReady There scope keys sources [] (scope_of sources).homes) es
  all_ready There keys sources [] h l is = tt
  all_ready There keys sources (e ∷ es) h l is = (
    (record { has = h.0; loaded = l.0 }, is.0),
    all_ready There keys sources es h.1 l.1 is.1,
  )

  abbrev logging : List (LogArgument Meant) → Step
  logging arguments =
      step_of k w f (log_cost k w arguments f) (Logging arguments)
      (numbers_from x.next (logged_cells arguments)) (Some (log_parts x.next arguments)) x

  logged_ready : (arguments : List (LogArgument Meant)) (keys : List Made) (sources : Sources)
      → AreSourcesOf keys (logging arguments) sources
      → AllByRecursion (IsArgumentMeant scope) arguments
      → AllByRecursion (IsReady (IsThere (logging arguments) sources.components) scope keys sources
      [] (scope_of sources).homes) (logged arguments)
  logged_ready arguments keys sources are meant_all =
      all_ready (IsThere (logging arguments) sources.components) keys sources (logged arguments)
      are.has
      (all_flat (IsLoaded sources)
      (expr_reads (ground_of keys sources []) (scope_of sources).homes) (logged arguments)
      are.loaded) (logged_meant scope arguments meant_all)

  pub line_sound : (arguments : List (LogArgument Meant)) (s : State)
      → log_values k w arguments f ≡ Ok s → AllByRecursion (IsArgumentMeant scope) arguments
      → IsSound (logging arguments)
  line_sound arguments s is meant_all keys sources are = (
    lowered_step keys (logging arguments) sources are
        (line_reads k keeps both fine sized w x fine_state runs tabled scope few keys sources
        arguments s is are (logged_ready arguments keys sources are meant_all))
        (logged_count x.next arguments),
    line_fits k keeps both fine sized w (log_cost k w arguments f) (Logging arguments)
        (numbers_from x.next (logged_cells arguments)) (Some (log_parts x.next arguments)) x
        fine_state runs keys sources are scope few arguments s
        (logged_ready arguments keys sources are meant_all) is,
  )

  -- what an assignment writes
  pub record IsWritten (n : ℕ) (a : VariableAssignment) : Type 0 where
    pub like : Like f a.state
    pub less : AllByRecursion (λ p. p < elements (variable_at a.state.frame n).dims) a.reach.places

  written_is : (n : ℕ) (accessors : Accessors Meant) (e : Expr Meant)
      → OnGood (IsWritten n) (variable_assignment k w n accessors e f)
  written_is n accessors e =
      good_next (λ y. Like f y.1) (IsWritten n) (value_in k w false Whole e f) _
      (value_like f k keeps w false Whole e f (like_itself f)) (λ y l.
      indices_kept k (Like f) false (valued_like f k keeps false) (IsWritten n) w [] accessors y.1
      _ l (λ os rest t lt.
      good_next (Reaches Whole (variable_at t.frame n).dims os) (IsWritten n)
      (reach w false Whole (variable_at t.frame n).dims os) _
      (reach_told w false Whole (variable_at t.frame n).dims os) (λ r h.
      good_needed (IsWritten n) (same_dims r.left y.0.dims) w ShapeDiffers _
      (good_ok (IsWritten n) record { value = y.0; reach = r; state = t } record {
        like = lt;
        less = reach_less Whole (variable_at t.frame n).dims os r h;
      }))))

  abbrev assigned : Assign Meant → ℕ → Accessors Meant → Expr Meant → VariableAssignment → Step
  assigned written n accessors e a =
      step_of k w f (variable_cost k w written n accessors e a f)
      (Assigning n accessors e (new_places n a))
      (numbers_from x.next (length (new_places n a))) None x

  -- an assignment
  module _ (written : Assign Meant) (n : ℕ) (accessors : Accessors Meant) (e : Expr Meant)
      (a : VariableAssignment) (is : variable_assignment k w n accessors e f ≡ Ok a)
      (none : HasNoMember accessors)
      (meant_set : IsSetMeant scope (meant.Variable n) accessors e) (keys : List Made)
      (sources : Sources)
      (are : AreSourcesOf keys (assigned written n accessors e a) sources) where
    abbrev its_homes : Homes
    its_homes = (scope_of sources).homes

    abbrev Loaded : List Reading → Type 0
    Loaded reads = AllByRecursion (IsLoaded sources) reads

    abbrev reads_of : Expr Meant → List Reading
    reads_of v = expr_reads (ground_of keys sources []) its_homes v

    home : (h : Home) × (find (Variable n) its_homes ≡ Some h)
    home = are.has.0.0 (few n meant_set.0)

    its : IsWritten n a
    its =
        good_is (IsWritten n) (variable_assignment k w n accessors e f) a is
        (written_is n accessors e)

    same : variable_at a.state.frame n ≡ variable_at f.frame n
    same = ap (λ vs. unwrap_or (slice_get vs n) (single (Known 0))) its.like.0

    dims : (variable_at f.frame n).dims ≡ home.0.dims
    dims =
        let b = are.arrays (Variable n) home.0 home.1 in
        sym (sources_beside f.frame.variables x.sources n).dims ∙ ap (λ d. d.dims) (sym b.is) ∙
        b.dims

    abbrev wanted_all : List Wanted
    wanted_all = record { want = Whole; expr = e } ∷ numbers_wanted (indices_of accessors)

    loaded : AllByRecursion (λ (v : Wanted). Loaded (reads_of v.expr)) wanted_all
    loaded =
        all_flat (IsLoaded sources) (λ (v : Wanted). reads_of v.expr) wanted_all
        (all_front (IsLoaded sources) (flat_map (λ (v : Wanted). reads_of v.expr) wanted_all) _
        are.loaded)

    indices_ready : AllByRecursion (IsReady (IsThere (assigned written n accessors e a)
        sources.components) scope keys sources [] its_homes) (indices_of accessors)
    indices_ready =
        all_ready (IsThere (assigned written n accessors e a) sources.components) keys sources
        (indices_of accessors) are.has.0.1
        (all_mapped (λ (v : Wanted). Loaded (reads_of v.expr))
        (λ i. record { want = Scalar; expr = i }) (indices_of accessors) loaded.1)
        (indices_meant scope accessors meant_set.1)

    value_ready : IsReady (IsThere (assigned written n accessors e a) sources.components) scope keys
        sources [] its_homes e
    value_ready = (record { has = are.has.0.2; loaded = loaded.0 }, meant_set.2)

    assigned_all : AreReadAll (assigned written n accessors e a) sources
    assigned_all =
        assigned_reads k keeps both fine sized w x fine_state runs tabled scope few keys sources
        written n home.0 accessors e a home.1 none is are indices_ready value_ready

    assigned_fits : StepFits keys sources (length (variable_sources f.frame.variables x.sources))
        (step_task (assigned written n accessors e a))
    assigned_fits =
        assignment_fits k keeps both fine sized w (variable_cost k w written n accessors e a f)
        (Assigning n accessors e (new_places n a))
        (numbers_from x.next (length (new_places n a))) None x
        fine_state runs keys sources are scope few w.spot n
        home.0 accessors e _ a home.1
        (home_below (length (variable_sources f.frame.variables x.sources)) sources are.shapes n
        home.0 home.1) none
        indices_ready value_ready
        (written_fit its_homes n home.0 a home.1
        (home_small (length (variable_sources f.frame.variables x.sources)) sources are.shapes
        (Variable n) home.0 home.1) (ap (λ d. d.dims) same ∙ dims)
        (ap (λ d. length d.items) same ∙ elements_are (assigned written n accessors e a) sources x
        refl n home.0 (are.arrays (Variable n) home.0 home.1)) its.less) is

  pub assigned_sound : (written : Assign Meant) (n : ℕ) (accessors : Accessors Meant)
      (e : Expr Meant) (a : VariableAssignment) → variable_assignment k w n accessors e f ≡ Ok a
      → HasNoMember accessors → IsSetMeant scope (meant.Variable n) accessors e
      → IsSound (assigned written n accessors e a)
  assigned_sound written n accessors e a is none meant_set keys sources are = (
    lowered_step keys (assigned written n accessors e a) sources are
        (assigned_all written n accessors e a is none meant_set keys sources are)
        (assigned_count n x.next (new_places n a)),
    assigned_fits written n accessors e a is none meant_set keys sources are,
  )
