-- The code of a step does what the step does.
use Rattle.std.proofs.Common.{◌≡◌, ℕ, zero, suc, ◌+◌, ◌<◌, ◌≤◌, Bool, true, false, List, [], ◌∷◌}
use Rattle.std.proofs.Common.{◌++◌, length, map, flat_map, Option, Some, None, Result, Ok, Err}
use Rattle.std.proofs.Common.{refl, sym, ap, ap₂, subst, ◌∙◌, arith, length-set, inl, inr}
use Rattle.std.specs.Prelude.{slice_get, slice_set, ◌==◌, ◌||◌}
use Rattle.std.specs.List.{AllByRecursion, list_any}
use Rattle.std.proofs.lemmas.Bool.{eqb-true}
use Rattle.cir_ast.specs.declared.program.Spot.{Spot}
use Rattle.cir_ast.specs.declared.program.Meant.{Meant}
use Rattle.cir_ast.specs.Program.{Program, Function}
use Rattle.cir_ast.specs.Tree.{Assign, Vars, Signals, Assigned, Constrain, Right}
use Rattle.cir_ast.specs.Tree.{Declared as DeclaredComponents, Created, TargetLeft, TargetRight}
use Rattle.cir_ast.specs.Tree.{Alone, Statement, Block, If, IfElse, While, For, Return, Assert, Log}
use Rattle.cir_ast.specs.Tree.{Ended}
use Rattle.cir_meaning.specs.Tried.{next}
use Rattle.cir_meaning.specs.Places.{elements, numbers_from}
use Rattle.cir_meaning.specs.Arrays.{Shaped}
use Rattle.cir_meaning.specs.Bodies.{most_open}
use Rattle.cir_meaning.specs.Costs.{Made}
use Rattle.cir_meaning.specs.Texts.{wanted_in, plain_wanted}
use Rattle.cir_meaning.specs.Writing.{plain}
use Rattle.cir_meaning.specs.Unknown.{writes, declares}
use Rattle.cir_meaning.specs.RunValues.{Ran, Numbers, Environment, Store, stored, gives}
use Rattle.cir_meaning.specs.RunStatements.{StepFlow, StepGoing, StepReturned, step_statement}
use Rattle.cir_meaning.specs.RunStatements.{step_statements, spend, run_call, run_function}
use Rattle.cir_meaning.specs.RunStatements.{in_function, returned_number}
use Rattle.cir_meaning.specs.RunBodies.{store_in}
use Rattle.cir_steps.specs.Step.{Step}
use Rattle.cir_steps.specs.RunSteps.{Cells, Calling, from, shaped_map, environment_at, store_at}
use Rattle.wit_lower.specs.Homes.{Variable, Home, Homes, Ground, find, slots_of}
use Rattle.wit_lower.specs.Known.{changes}
use Rattle.wit_lower.specs.Sources.{Sources, scope_of, cells_read, environment_of, store_of}
use Rattle.wit_lower.specs.Sources.{all_numbers, signal_at}
use Rattle.wit_lower.specs.Tasks.{Element, Task, Gives, Equal, Logs, Executes, element_in, done_by}
use Rattle.wit_lower.specs.Tasks.{step_ground, step_code, changed_by, IsOutcome}
use Rattle.wit_lower.specs.Fits.{AreLaid, StatementFits}
use Rattle.wit_lower.specs.Steps.{StepFits, TargetsFit}
use Rattle.wit_lower.proofs.Shows.{KnownAt, lies}
use Rattle.wit_lower.proofs.Parts.{slots_are}
use Rattle.wit_lower.proofs.Shown.{shapes_laid, shapes_below}
use Rattle.wit_lower.proofs.Knowing.{Keeps, number_is}
use Rattle.wit_lower.proofs.Listed.{In, in_front, in_back, statement_listed}
use Rattle.wit_lower.proofs.Scopes.{stored_other}
use Rattle.wit_lower.proofs.Loading.{step_runs}
use Rattle.wit_lower.proofs.FormedTable.{step_is}
use Rattle.wit_lower.proofs.CountedStep.{step_counts}
use Rattle.cir_emit.specs.Tasks.{step_task}
use Rattle.cir_emit.specs.Reads.{Reading, part_of, elements_of, is_written, targets_kept, kept}
use Rattle.cir_emit.specs.Reads.{expr_reads, task_reads}
use Rattle.cir_emit.specs.Lowered.{IsLoaded, AreLoaded, IsLoweredStep, HaveNumbers, IsStepRight}
use Rattle.cir_emit.proofs.Lists.{all_front, all_back, all_mapped, all_flat, all_number, both}
use Rattle.cir_emit.proofs.Lists.{map_long, from_long}
use Rattle.cir_emit.proofs.Arrays.{SameNumbers, signals_same, ports_same, first_outside}
use Rattle.cir_emit.proofs.Arrays.{second_outside, variables_same}
use Rattle.cir_emit.proofs.Values.{Alike, Shared, Outer, reading}
use Rattle.cir_emit.proofs.Shapes.{Shapely, HasShape}
use Rattle.cir_emit.proofs.Stores.{Twin}
use Rattle.cir_emit.proofs.Statements.{Pair, FlowPair, statement_pair, inner_of}
use Rattle.cir_emit.proofs.Tasks.{whole_same, same_weaker, kept_all, gives_same, equal_same}
use Rattle.cir_emit.proofs.Tasks.{lines_same, assign_same}
use Rattle.cir_emit.proofs.Works.{work_same}

-- a call gives one number
returned_shape : (x : StepFlow) → HasShape [] (returned_number x)
returned_shape (StepGoing store) = record { dims_are = refl; long = refl }
returned_shape (StepReturned d) = record { dims_are = refl; long = refl }

function_shape : (call : Calling) (o : Option Function) (ds : List Numbers) (u : ℕ)
    (x : Numbers × ℕ) → run_function call o ds u ≡ Ok x → HasShape [] x.0
function_shape call None ds u x e = cc
function_shape call (Some f) ds u x e =
    let r = both (step_statements (in_function call) f.body _ u)
    (λ y. gives (returned_number y.0) y.1) x e in
    let ends : ◌≡◌ {A = Ran Numbers} (gives (returned_number r.first.0) r.first.1) (Ok x) =
    r.rest in
    let same : (returned_number r.first.0, r.first.1) ≡ x = cc in
    subst (λ y. HasShape [] y.0) same (returned_shape r.first.0)

spent_shape : (u : ℕ) (go : ℕ → Ran Numbers) (x : Numbers × ℕ) → spend u go ≡ Ok x
    → ((v : ℕ) → go v ≡ Ok x → HasShape [] x.0) → HasShape [] x.0
spent_shape zero go x e h = cc
spent_shape (suc u) go x e h = h u e

call_shape : (p : Program) (room f : ℕ) (ds : List Numbers) (u : ℕ) (x : Numbers × ℕ)
    → run_call p room f ds u ≡ Ok x → HasShape [] x.0
call_shape p zero f ds u x e = spent_shape u _ x e (λ v ev. cc)
call_shape p (suc room) f ds u x e =
    spent_shape u _ x e
    (λ v ev. function_shape (run_call p room) (slice_get p.functions f) ds v x ev)

-- of a list that all are
all_in : (Q : ℕ → Type 0) (ns : List ℕ) (n : ℕ) → AllByRecursion Q ns → In n ns → Q n
all_in Q [] n h i = cc
all_in Q (m ∷ ms) n h i = at (λ j. all_in Q ms n h.1 j) (m == n) refl i
  where
    at : (In n ms → Q n) → (b : Bool) → (m == n) ≡ b → (b || list_any (λ k. k == n) ms) ≡ true
        → Q n
    at later true e i = subst Q (eqb-true m n e) h.0
    at later false e i = later i

-- an assignment, or another statement
module _ (P : Statement Spot Meant → Type 0)
    (assigns : (spot : Spot) (a : Assign Meant) → P (Ended spot (Assigned a)))
    (others : (a : Statement Spot Meant) → changes a ≡ writes a ++ declares a
    → ((g : Ground) (homes : Homes) (targets : List Element) → kept g homes a targets
    ≡ flat_map (λ n. part_of (Variable n) (find (Variable n) homes) []) (changes a) ++
    targets_kept targets) → P a) where
  by_kind : (a : Statement Spot Meant) → P a
  by_kind (Block spot ss) = others (Block spot ss) refl (λ g h t. refl)
  by_kind (If spot c a) = others (If spot c a) refl (λ g h t. refl)
  by_kind (IfElse spot c a b) = others (IfElse spot c a b) refl (λ g h t. refl)
  by_kind (While spot c a) = others (While spot c a) refl (λ g h t. refl)
  by_kind (For spot first_spot x c step_spot a body) =
      others (For spot first_spot x c step_spot a body) refl (λ g h t. refl)
  by_kind (Return spot e) = others (Return spot e) refl (λ g h t. refl)
  by_kind (Assert spot e) = others (Assert spot e) refl (λ g h t. refl)
  by_kind (Log spot arguments) = others (Log spot arguments) refl (λ g h t. refl)
  by_kind (Ended spot (Assigned a)) = assigns spot a
  by_kind (Ended spot (Vars vs)) = others (Ended spot (Vars vs)) refl (λ g h t. refl)
  by_kind (Ended spot (Signals d ds)) = others (Ended spot (Signals d ds)) refl (λ g h t. refl)
  by_kind (Ended spot (DeclaredComponents cs)) =
      others (Ended spot (DeclaredComponents cs)) refl (λ g h t. refl)
  by_kind (Ended spot (Created name m e)) =
      others (Ended spot (Created name m e)) refl (λ g h t. refl)
  by_kind (Ended spot (Constrain a b)) = others (Ended spot (Constrain a b)) refl (λ g h t. refl)
  by_kind (Ended spot (Right e arrow name m accessors)) =
      others (Ended spot (Right e arrow name m accessors)) refl (λ g h t. refl)
  by_kind (Ended spot (TargetLeft t arrow x)) =
      others (Ended spot (TargetLeft t arrow x)) refl (λ g h t. refl)
  by_kind (Ended spot (TargetRight x arrow t)) =
      others (Ended spot (TargetRight x arrow t)) refl (λ g h t. refl)
  by_kind (Ended spot (Alone parallel name m arguments inputs)) =
      others (Ended spot (Alone parallel name m arguments inputs)) refl (λ g h t. refl)

module _ (program : Program) (keys : List Made) (step : Step) (sources : Sources)
    (low : IsLoweredStep keys step sources) (cells : Cells) (numbers : ℕ → ℕ)
    (have : HaveNumbers cells numbers (cells_read sources.list)) where
  abbrev variables : ℕ
  variables = length step.variables

  abbrev call : Calling
  call = run_call program most_open

  abbrev one : Environment
  one = environment_of sources numbers call

  abbrev two : Environment
  two = environment_at call cells step.names

  abbrev homes : Homes
  homes = (scope_of sources).homes

  abbrev store : Store
  store = store_of sources numbers variables

  abbrev other : Store
  other = store_at cells step.variables

  abbrev Loaded : Reading → Type 0
  Loaded r = IsLoaded sources r

  long : length store ≡ variables
  long =
      map_long (λ n. all_numbers (signal_at sources numbers (Variable n)))
      (numbers_from 0 variables) ∙ from_long 0 variables

  sizes : length store ≡ length other
  sizes = long ∙ sym (map_long (shaped_map (from cells)) step.variables)

  module _ (t : Task) (fits : StepFits keys sources variables t) where
    abbrev g : Ground
    g = step_ground keys sources t

    laid : AreLaid homes (scope_of sources).top
    laid = shapes_laid variables sources.shapes record { homes = []; top = 0 } fits.shapes tt

    known_at : (st : Store) → Keeps (changed_by t) store st → KnownAt g one st
    known_at st keeps =
        number_is sources numbers call variables fits.shapes fits.list (changed_by t) st keeps

    alike : Alike g homes Loaded one two
    alike = record {
      signal = λ n h e. signals_same keys step sources low call cells numbers have n h e;
      port = λ n indices name h inside full e.
          ports_same keys step sources low call cells numbers have n indices name h inside full e;
      outside = λ n indices name e.
          first_outside keys step sources low call cells numbers have n indices name e;
      other_outside = λ n indices name e.
          second_outside keys step sources low call cells numbers have n indices name e;
      called = λ e. refl;
      other_called = λ e. sym (low.called e);
      call = λ f ds u. refl;
    }

    stores : (n : ℕ) (h : Home) → find (Variable n) homes ≡ Some h
        → SameNumbers (λ k. Loaded (reading (Variable n) k)) h.dims (stored store n)
        (stored other n)
    stores n h e =
        variables_same keys step sources low call cells numbers have variables n h
        (shapes_below variables sources.shapes record { homes = []; top = 0 } fits.shapes
        (λ m j ej. cc) n h e) e

    shapely : Shapely g homes one store
    shapely = record {
      variable = λ n h e. (stores n h e).first;
      signal = λ n h w e ew.
          let p = alike.signal n h e in
          let same : p.one ≡ w = (let x : Some p.one ≡ Some w = sym p.is_one ∙ ew in cc) in
          ap (λ d. d.dims) (sym same) ∙ p.same.first;
      port = λ n indices name h w inside full e ew.
          let p = alike.port n indices name h inside full e in
          let same : p.one ≡ w =
          (let x : ◌≡◌ {A = Result (Shaped (Option ℕ)) ℕ} (Ok p.one) (Ok w) = sym p.is_one ∙ ew
          in cc)
          in
          ap (λ d. d.dims) (sym same) ∙ p.same.first;
      outside = alike.outside;
      called = λ e. refl;
      call = λ f ds u x e. call_shape program most_open f ds u x e;
      known = known_at store (λ n e. refl);
    }

  -- the variables that a statement changes are loaded whole
  module _ (a : Statement Spot Meant) (targets : List Element)
      (changed : changes a ≡ writes a ++ declares a)
      (fits : StepFits keys sources variables (Executes a targets))
      (covered : AllByRecursion Loaded (flat_map
      (λ x. expr_reads (step_ground keys sources (Executes a targets)) homes x.expr) (wanted_in a)))
      (all : AllByRecursion Loaded (flat_map
      (λ n. part_of (Variable n) (find (Variable n) homes) []) (changes a)))
      (wanted : AllByRecursion Loaded (targets_kept targets)) where
    abbrev t : Task
    t = Executes a targets

    abbrev Whole : ℕ → Type 0
    Whole n = In n (changes a)

    abbrev Free : ℕ → Type 0
    Free n = (n < variables) × In n (changes a)

    abbrev Fixed : Store → Type 0
    Fixed st = Keeps (changes a) store st × (variables ≤ length st)

    fixed_stays : (st : Store) (n : ℕ) (d : Numbers) → Free n → Fixed st
        → Fixed (slice_set st n d)
    fixed_stays st n d (below, listed) (keeps, room) = (
      λ m free. stored_other st n m d (λ e. differ (sym listed ∙
          ap (λ i. list_any (λ j. j == i) (changes a)) (sym e) ∙ free)) ∙ keeps m free,
      omega (arith, room, length-set st n d),
    )
      where
        differ : true ≡ false → ⊥
        differ e = cc

    whole_loaded : (n : ℕ) (h : Home) → find (Variable n) homes ≡ Some h → Whole n → (k : ℕ)
        → k < slots_of h.dims → Loaded (reading (Variable n) k)
    whole_loaded n h e w k l =
        let z : 0 + k ≡ k = omega arith in
        let each =
        all_in (λ m. AllByRecursion Loaded (part_of (Variable m) (find (Variable m) homes)
        [])) (changes a) n (all_flat Loaded
        (λ m. part_of (Variable m) (find (Variable m) homes) []) (changes a) all) w in
        let places : AllByRecursion Loaded (elements_of (Variable n)
        (numbers_from 0 (elements h.dims))) =
        subst (λ o. AllByRecursion Loaded (part_of (Variable n) o [])) e each in
        let few : slots_of h.dims ≡ elements h.dims =
        slots_are h.dims (lies homes (scope_of sources).top (Variable n) h (laid t fits) e).fits in
        subst (λ i. Loaded (reading (Variable n) i)) z
        (all_number (λ i. Loaded (reading (Variable n) i)) 0 (elements h.dims) k
        (omega (arith, l, few))
        (all_mapped Loaded (reading (Variable n)) (numbers_from 0 (elements h.dims)) places))

    abbrev Both_have : Homes → Store → Store → Type 0
    Both_have = Pair (g t fits) homes Loaded Whole one two (alike t fits) Fixed Free
        (λ st fixed. known_at t fits st fixed.0) fixed_stays
        (λ st n free fixed. omega (arith, free.0, fixed.1)) (λ n free. free.1)

    first_pair : Both_have homes store other
    first_pair = record {
      stays_fixed = (λ n e. refl, omega (arith, long));
      sizes = sizes;
      same = λ n h e.
          let s = stores t fits n h e in
          same_weaker (λ k. Loaded (reading (Variable n) k)) (Shared Loaded Whole n) h.dims
          (stored store n) (stored other n) s
          (λ k x. elim x [
            | inl w ↦
                whole_same (λ k. Loaded (reading (Variable n) k)) h.dims (stored store n)
                (stored other n) s (λ j l. whole_loaded n h e w j l) k
            | inr l ↦ s.each k l
          ]);
    }

    outer : Outer Whole homes homes
    outer x h e = inr e

    flows : (u : ℕ) → Twin (FlowPair (g t fits) homes Loaded Whole one two (alike t fits) Fixed Free
        (λ st fixed. known_at t fits st fixed.0) fixed_stays
        (λ st n free fixed. omega (arith, free.0, fixed.1)) (λ n free. free.1) homes)
        (step_statement one a store u) (step_statement two a other u)
    flows u =
        let listed : StatementFits Free ⊥ (g t fits) (scope_of sources) a =
        statement_listed (λ n. n < variables) ⊥ (g t fits) (changes a) (scope_of sources) a
        (λ n h. subst (In n) (sym changed) (in_front n (writes a) (declares a) h))
        (λ n h. subst (In n) (sym changed) (in_back n (writes a) (declares a) h)) fits.fits.0 in
        inner_of (g t fits) homes Loaded Whole one two (alike t fits) Fixed Free
        (λ st fixed. known_at t fits st fixed.0) fixed_stays
        (λ st n free fixed. omega (arith, free.0, fixed.1)) (λ n free. free.1) a (scope_of sources)
        (step_statement one a store u) (step_statement two a other u) listed
        (statement_pair (g t fits) homes Loaded Whole one two (alike t fits) Fixed Free
        (λ st fixed. known_at t fits st fixed.0) fixed_stays
        (λ st n free fixed. omega (arith, free.0, fixed.1)) (λ n free. free.1) a (scope_of sources)
        outer store other u listed
        (all_flat Loaded (λ x. expr_reads (g t fits) homes x.expr) (wanted_in a) covered)
        first_pair)

    targets_same : (ts : List Element) → TargetsFit homes ts
        → AllByRecursion Loaded (targets_kept ts)
        → (x y : Store) → Both_have homes x y → map (element_in x) ts ≡ map (element_in y) ts
    targets_same [] fit loaded x y pair = refl
    targets_same (e ∷ es) (fe, fs) loaded x y pair =
        ap₂ (λ n ns. n ∷ ns)
        ((pair.same e.variable fe.home fe.found).each e.element (inr loaded.0))
        (targets_same es fs loaded.1 x y pair)

    other_same : (u : ℕ) → done_by one store t u ≡ done_by two other t u
    other_same u = at (step_statement one a store u) (step_statement two a other u) (flows u)
      where
        at : (m n : Ran StepFlow)
            → Twin (FlowPair (g t fits) homes Loaded Whole one two (alike t fits) Fixed Free
            (λ st fixed. known_at t fits st fixed.0) fixed_stays
            (λ st n free fixed. omega (arith, free.0, fixed.1)) (λ n free. free.1) homes) m n
            → next m (λ x. gives (map (element_in (store_in x.0 store)) targets) x.1)
            ≡ next n (λ x. gives (map (element_in (store_in x.0 other)) targets) x.1)
        at (Ok (StepGoing x, u1)) (Ok (StepGoing y, v1)) (pair, e) =
            ap₂ (λ xs v. gives xs v) (targets_same targets fits.fits.1 wanted x y pair) e
        at (Ok (StepGoing x, u1)) (Ok (StepReturned d, v1)) (pair, e) = absurd pair
        at (Ok (StepReturned d, u1)) (Ok y) (pair, e) = absurd pair
        at (Ok x) (Err s) h = absurd h
        at (Err s) (Ok y) h = absurd h
        at (Err s) (Err r) e = ap (λ x. Err x) e

  -- a task
  abbrev IsSame : Task → Type 0
  IsSame t =
      (fits : StepFits keys sources variables t)
      → AreLoaded sources (task_reads (step_ground keys sources t) homes t) → (u : ℕ)
      → done_by one store t u ≡ done_by two other t u

  assigned_same : (targets : List Element) (spot : Spot) (a : Assign Meant)
      → IsSame (Executes (Ended spot (Assigned a)) targets)
  assigned_same targets spot a fits loaded u =
      let t : Task = Executes (Ended spot (Assigned a)) targets in
      let reads : List Reading =
      flat_map (λ x. expr_reads (g t fits) homes x.expr) (plain_wanted (plain a)) in
      assign_same (g t fits) homes (scope_of sources).top (laid t fits) Loaded one two
      (alike t fits)
      store other sizes (shapely t fits) (stores t fits) (plain a) (λ n. n < variables) targets u
      (λ n l. omega (arith, l, long)) fits.fits.0
      (all_flat Loaded (λ x. expr_reads (g t fits) homes x.expr) (plain_wanted (plain a))
      (all_front Loaded reads _ loaded)) fits.fits.1
      (kept_all Loaded (is_written (g t fits) homes (plain a)) targets
      (all_back Loaded reads _ loaded))

  pub task_same : (t : Task) → IsSame t
  task_same (Gives e) fits loaded u =
      let t : Task = Gives e in
      gives_same (g t fits) homes (scope_of sources).top (laid t fits) Loaded one two (alike t fits)
      store other sizes (shapely t fits) (stores t fits) e u fits.fits loaded
  task_same (Equal a b) fits loaded u =
      let t : Task = Equal a b in
      equal_same (g t fits) homes (scope_of sources).top (laid t fits) Loaded one two (alike t fits)
      store other sizes (shapely t fits) (stores t fits) a b u fits.fits.0 fits.fits.1
      (all_front Loaded (expr_reads (g t fits) homes a) _ loaded)
      (all_back Loaded (expr_reads (g t fits) homes a) _ loaded)
  task_same (Logs es) fits loaded u =
      let t : Task = Logs es in
      lines_same (g t fits) homes (scope_of sources).top (laid t fits) Loaded one two (alike t fits)
      store other sizes (shapely t fits) (stores t fits) es u fits.fits
      (all_flat Loaded (expr_reads (g t fits) homes) es loaded)
  task_same (Executes a targets) fits loaded u =
      by_kind (λ b. IsSame (Executes b targets)) (assigned_same targets)
      (λ b changed keeps fits loaded u.
      let reads : List Reading =
      flat_map (λ x. expr_reads (step_ground keys sources (Executes b targets)) homes x.expr)
      (wanted_in b) in
      let whole : List Reading =
      flat_map (λ n. part_of (Variable n) (find (Variable n) homes) []) (changes b) in
      let behind : AllByRecursion Loaded (whole ++ targets_kept targets) =
      subst (AllByRecursion Loaded) (keeps (step_ground keys sources (Executes b targets)) homes
      targets) (all_back Loaded reads _ loaded) in
      other_same b targets changed fits (all_front Loaded reads _ loaded)
      (all_front Loaded whole (targets_kept targets) behind)
      (all_back Loaded whole (targets_kept targets) behind) u) a fits loaded u

pub step_right : (program : Program) (keys : List Made) (step : Step) (sources : Sources)
    → IsLoweredStep keys step sources
    → StepFits keys sources (length step.variables) (step_task step)
    → IsStepRight program keys step (cells_read sources.list)
    (step_code (step_ground keys sources (step_task step)) sources (step_task step))
step_right program keys step sources low fits = record {
  formed = λ later procs table.
      step_is program keys sources (length step.variables) (step_task step) fits later procs table;
  counted = λ later procs table numbers fuel values ran.
      step_counts program keys sources (length step.variables) (step_task step) fits later procs
      table numbers fuel values ran ∙ low.count;
  runs = λ later procs table cells numbers have fuel outcome is.
      step_runs program keys sources (length step.variables) later procs table numbers fuel outcome
      (step_task step) fits
      (subst (λ m. IsOutcome m outcome) (sym (task_same program keys step sources low cells numbers
      have (step_task step) fits low.loaded fuel ∙
      work_same (environment_at (run_call program most_open) cells step.names)
      (store_at cells step.variables) step.place.spot step.work fuel)) is);
}
