-- A step of what a condition left that isn't known is lowered and fits where it is made, whatever
-- shows its sources.
use Rattle.std.proofs.Common.{◌≡◌, ℕ, ◌<◌, ◌++◌, List, [], ◌∷◌, length, Option, Some, None, Ok}
use Rattle.std.proofs.Common.{refl, sym, ap, ◌∙◌, arith, true, ◌≤◌}
use Rattle.std.specs.Prelude.{slice_get, unwrap_or, flat_map, ◌==◌, false}
use Rattle.cir_ast.specs.declared.program.Spot.{Spot}
use Rattle.cir_ast.specs.declared.program.Meant.{Meant}
use Rattle.cir_ast.specs.Tree.{Statement, Vars, Assigned, Signals, Declared, Created, Constrain}
use Rattle.cir_ast.specs.Tree.{Right, TargetLeft, TargetRight, Alone, Block, If, IfElse, While, For}
use Rattle.cir_ast.specs.Tree.{Return, Assert, Log, Ended}
use Rattle.cir_meaning.specs.Tried.{Where}
use Rattle.cir_meaning.specs.Places.{numbers_from}
use Rattle.cir_meaning.specs.Arrays.{Datum, single, filled, forgotten}
use Rattle.cir_meaning.specs.Values.{Known, Opaque}
use Rattle.cir_meaning.specs.Costs.{Made, Cell as Read, cost_of}
use Rattle.cir_meaning.specs.Frame.{State, Context, at, variable_at, Part}
use Rattle.cir_meaning.specs.Scoped.{Scope as Names, IsScoped, behind}
use Rattle.cir_meaning.specs.Scan.{forget_one, forget, scan, undecided}
use Rattle.cir_meaning.specs.Steps.{undecided_cost}
use Rattle.cir_meaning.specs.Unknown.{Fault, writes, declares, outer_assigned}
use Rattle.cir_meaning.proofs.Good.{good_is}
use Rattle.cir_meaning.proofs.Likes.{CallKeeps}
use Rattle.cir_meaning.proofs.FineValues.{FineContext, Fine}
use Rattle.cir_meaning.proofs.FineWriting.{forgotten_fine, set_fine}
use Rattle.cir_meaning.proofs.KnownCalls.{CallBoth}
use Rattle.cir_meaning.proofs.Fading.{Rest, rest_like, scan_rest}
use Rattle.cir_meaning.proofs.PartWrites.{set_count}
use Rattle.cir_meaning.proofs.Scans.{may_any, like_valued, scan_kept}
use Rattle.cir_meaning.proofs.ScanStarts.{forget_count, rest_between}
use Rattle.cir_meaning.proofs.ScopeLaws.{IsSound}
use Rattle.cir_meaning.proofs.UndecidedRuns.{forget_rest}
use Rattle.cir_meaning.proofs.Rows.{all_append, all_joined}
use Rattle.cir_meaning.proofs.UndecidedReal.{Scanned, scanned}
use Rattle.cir_steps.specs.Step.{Step, Deciding}
use Rattle.cir_steps.specs.Emission.{Emission, known_in, step_of}
use Rattle.cir_steps.specs.Making.{wanted_of, count_of}
use Rattle.wit_lower.specs.Homes.{Variable, Home, Homes, find, slots_of, Name, Ground}
use Rattle.wit_lower.specs.Known.{changes}
use Rattle.wit_lower.specs.Sources.{Sources, scope_of}
use Rattle.wit_lower.specs.Steps.{StepFits}
use Rattle.wit_lower.specs.Statements.{scope_behind}
use Rattle.wit_lower.specs.Fits.{StatementFits}
use Rattle.wit_lower.proofs.Listed.{In}
use Rattle.cir_emit.specs.Tasks.{step_task, all_elements}
use Rattle.cir_emit.specs.Reads.{Reading, expr_reads, kept}
use Rattle.cir_emit.proofs.Lists.{all_front, all_flat}
use Rattle.cir_emit.proofs.Loads.{statement_more}
use Rattle.cir_meaning.specs.Texts.{Wanted, wanted_in}
use Rattle.std.specs.List.{AllByRecursion, list_any}
use Rattle.cir_emit.proofs.Fitting.{ground_of, IsHeld}
use Rattle.cir_emit.proofs.Emitted.{step_stands, IsFrom}
use Rattle.cir_emit.proofs.Forgotten.{from_scan}
use Rattle.cir_emit.proofs.Scanned.{StatementReady}
use Rattle.cir_emit.proofs.Scanning.{Stood, Tells, statement_done}
use Rattle.cir_emit.proofs.Cells.{IsCellRead}
use Rattle.cir_emit.proofs.DecisionCells.{IsOuterRead, decision_led, wanted_counted, outer_read}
use Rattle.cir_emit.proofs.Evaluated.{AllOf}
use Rattle.cir_emit.proofs.Few.{cells_of_few}
use Rattle.cir_emit.proofs.KeptCells.{kept_told}
use Rattle.cir_emit.proofs.ReadSteps.{AreReadAll}
use Rattle.cir_emit.proofs.Seen.{Closes}
use Rattle.cir_emit.proofs.SmallArrays.{scanned_none}
use Rattle.cir_emit.proofs.Counts.{wanted_count}
use Rattle.cir_emit.proofs.Targets.{elements_are, wanted_fit, home_small, home_below}
use Rattle.cir_emit.proofs.Targets.{variables_long}
use Rattle.cir_emit.specs.Lowered.{IsLoaded}
use Rattle.cir_emit.specs.Sourced.{IsThere, AreSourcesOf, HasAll}
use Rattle.cir_emit.proofs.MadeSteps.{IsSound as IsSoundStep, lowered_step}
use Rattle.cir_emit.proofs.Ready.{outer_less, statement_ready}
use Rattle.cir_steps.specs.Places.{HasPlaces}
use Rattle.cir_steps.proofs.ReadCells.{IsTabled}
use Rattle.cir_steps.proofs.Sized.{SizedCall}
use Rattle.cir_meaning.specs.Run.{RunPart}

all_then : {A : Type 0} (P Q : A → Type 0) (xs : List A) → AllByRecursion (λ x. P x → Q x) xs
    → AllByRecursion P xs → AllByRecursion Q xs
all_then P Q [] f h = tt
all_then P Q (x ∷ xs) f h = (f.0 h.0, all_then P Q xs f.1 h.1)

scan_count : (k : Context) (keeps : CallKeeps k.call) (w : Where) (a : Statement Spot Meant)
    (t t1 : State) → scan k w a t ≡ Ok t1
    → length t1.frame.variables ≡ length t.frame.variables
scan_count k keeps w a t t1 e =
    good_is (λ u. length u.frame.variables ≡ length t.frame.variables) (scan k w a t) t1 e
    (scan_kept k (λ u. length u.frame.variables ≡ length t.frame.variables)
    (like_valued k keeps (λ u. length u.frame.variables ≡ length t.frame.variables)
    (λ f u l h. ap (λ (vs : List Datum). length vs) l.0 ∙ h) true) (λ n. Unit {0})
    (λ n dims u m h. set_count u.frame.variables n (filled dims Opaque) ∙ h) w a
    (may_any (declares a)) t refl)

forget_fine : (ns : List ℕ) (s : State) → Fine s → Fine (forget ns s)
forget_fine [] s h = h
forget_fine (n ∷ ns) s h =
    forget_fine ns (forget_one n s)
    (set_fine n (forgotten (variable_at s.frame n)) s (forgotten_fine (variable_at s.frame n)) h)

-- what changes is assigned or declared
unchanged : (a : Statement Spot Meant) (n : ℕ)
    → list_any (λ m. m == n) (writes a ++ declares a) ≡ false
    → list_any (λ m. m == n) (changes a) ≡ false
unchanged (Ended spot (Assigned x)) n h = refl
unchanged (Ended spot (Vars vs)) n h = h
unchanged (Ended spot (Signals d ds)) n h = h
unchanged (Ended spot (Declared cs)) n h = h
unchanged (Ended spot (Created name m e)) n h = h
unchanged (Ended spot (Constrain x y)) n h = h
unchanged (Ended spot (Right e arrow name m accessors)) n h = h
unchanged (Ended spot (TargetLeft x arrow y)) n h = h
unchanged (Ended spot (TargetRight y arrow x)) n h = h
unchanged (Ended spot (Alone parallel name m arguments inputs)) n h = h
unchanged (Block spot ss) n h = h
unchanged (If spot c a) n h = h
unchanged (IfElse spot c a b) n h = h
unchanged (While spot c a) n h = h
unchanged (For spot first_spot f c step_spot a body) n h = h
unchanged (Return spot e) n h = h
unchanged (Assert spot e) n h = h
unchanged (Log spot arguments) n h = h

module _ (k : Context) (keeps : CallKeeps k.call) (both : CallBoth k.call) (fine : FineContext k)
    (sized : SizedCall k.call) (spot : Spot) (fault : Option Fault) (a : Statement Spot Meant)
    (x : Emission) (fine_state : Fine (known_in x))
    (runs : (j : ℕ) (p : Part) → slice_get (known_in x).frame.parts j ≡ Some p
    → (r : RunPart) × (slice_get x.cells.parts j ≡ Some r)) (tabled : IsTabled x) (s : State)
    (es : undecided k spot fault a (known_in x) ≡ Ok s) (functions : ℕ) (scope : Names)
    (sounds : IsSound functions scope) (is : IsScoped scope a) (places : HasPlaces a)
    (few : (behind scope a).variables ≤ length (known_in x).frame.variables) where
  abbrev w : Where
  w = at k spot

  abbrev f : State
  f = known_in x

  abbrev begun : State
  begun = forget (outer_assigned a) f

  abbrev pub step : Step
  step =
      step_of k w s (undecided_cost k w a f s) (Deciding a (wanted_of (outer_assigned a) f))
      (numbers_from x.next (count_of (wanted_of (outer_assigned a) f))) None x

  its : Scanned k w a f s
  its = scanned k spot fault a f s es

  rest_begun : Rest f begun
  rest_begun = forget_rest (outer_assigned a) f f (refl, refl, refl, refl)

  rest_s : Rest f s
  rest_s =
      rest_like f its.after s its.like
      (good_is (Rest f) (scan k w a begun) its.after its.scans
      (scan_rest f k keeps w a begun rest_begun))

  lengths : length begun.frame.variables ≡ length s.frame.variables
  lengths =
      sym (scan_count k keeps w a begun its.after its.scans)
      ∙ ap (λ (vs : List Datum). length vs) (sym its.like.0)

  abbrev count : ℕ
  count = length step.variables

  -- there are as many variables in each of these states
  counts : (length s.frame.variables ≡ count) × (length f.frame.variables ≡ count)
  counts =
      let long : count ≡ length f.frame.variables = variables_long f.frame.variables x.sources in (
        omega (arith, long, lengths, forget_count (outer_assigned a) f),
        omega (arith, long),
      )

  ends : Closes k keeps w functions s (behind scope a).variables its.after
  ends = (
    (
      omega (arith, few, counts.0, counts.1),
      λ n less.
          ap (λ (vs : List Datum). unwrap_or (slice_get vs n) (single (Known 0))) (sym its.like.0),
    ),
    scanned_none k spot fault a f s es its.after its.scans,
  )

  module _ (keys : List Made) (sources : Sources) (are : AreSourcesOf keys step sources) where
    abbrev homes : Homes
    homes = (scope_of sources).homes

    abbrev g : Ground
    g = ground_of keys sources (changes a)

    abbrev There : Name → Type 0
    There = IsThere step sources.components

    abbrev free : ℕ → Type 0
    free n = n < count

    whole : (n : ℕ) (h : Home) → find (Variable n) homes ≡ Some h
        → (n < length f.frame.variables)
        × (length (variable_at f.frame n).items ≡ slots_of h.dims)
    whole n h e = (
      omega (arith, home_below count sources are.shapes n h e, counts.1),
      elements_are step sources x refl n h (are.arrays (Variable n) h e),
    )

    from : IsFrom x s begun (changes a) homes
    from =
        let all : IsFrom x s begun (writes a ++ declares a) homes =
        from_scan x s a homes rest_s.0 rest_s.1 rest_s.2 are.has.1 whole in record {
          signals = all.signals;
          components = all.components;
          parts = all.parts;
          dims = all.dims;
          known = λ n h i v e l known.
              let p = all.known n h i v e l known in (unchanged a n p.0, p.1);
        }

    runs_s : (j : ℕ) (p : Part) → slice_get s.frame.parts j ≡ Some p
        → (r : RunPart) × (slice_get x.cells.parts j ≡ Some r)
    runs_s j p e = runs j p (ap (λ ps. slice_get ps j) (sym rest_s.2) ∙ e)

    there : (n : ℕ) → n < length s.frame.variables → There (Variable n)
    there n less = omega (arith, less, counts.0)

    abbrev IsOuter : Read → Type 0
    IsOuter =
        IsOuterRead k w a (Deciding a (wanted_of (outer_assigned a) f))
        (numbers_from x.next (count_of (wanted_of (outer_assigned a) f))) None x sources s begun
        (changes a) from are.arrays are.components runs_s (home_small count sources are.shapes)
        (sym rest_begun.0) (sym rest_begun.2) tabled are.has.1

    abbrev IsIn : Reading → Type 0
    IsIn = IsCellRead sources step.reads

    room : (n : ℕ) → free n → n < length s.frame.variables
    room n less = omega (arith, less, counts.0)

    begun_stands : Stood k keeps both fine sized w functions s keys sources (changes a) There there
        are.called free room IsOuter IsIn homes begun
    begun_stands = record {
      stands = step_stands k w (undecided_cost k w a f s)
          (Deciding a (wanted_of (outer_assigned a) f))
          (numbers_from x.next (count_of (wanted_of (outer_assigned a) f))) None x sources s
          begun (changes a) from are.arrays are.components runs_s
          (home_small count sources are.shapes);
      fine_state = forget_fine (outer_assigned a) f fine_state;
      led = decision_led k w a (Deciding a (wanted_of (outer_assigned a) f))
          (numbers_from x.next (count_of (wanted_of (outer_assigned a) f))) None x sources s begun
          (changes a) from are.arrays are.components runs_s (home_small count sources are.shapes)
          (sym rest_begun.0) (sym rest_begun.2) tabled are.has.1;
    }

    loaded : AllByRecursion (λ (v : Wanted). AllByRecursion (IsLoaded sources)
        (expr_reads g homes v.expr)) (wanted_in a)
    loaded =
        all_flat (IsLoaded sources) (λ (v : Wanted). expr_reads g homes v.expr) (wanted_in a)
        (all_front (IsLoaded sources)
        (flat_map (λ (v : Wanted). expr_reads g homes v.expr) (wanted_in a)) _ are.loaded)

    ready : StatementReady (λ homes e. IsHeld There keys sources (changes a) homes e) g free
        (scope_of sources) a
    ready =
        statement_more (λ homes e. HasAll There g homes e)
        (λ homes e. IsHeld There keys sources (changes a) homes e)
        (λ e. AllByRecursion (IsLoaded sources) (expr_reads g homes e))
        (λ hs e h l. record { has = h; loaded = l }) g free a (scope_of sources)
        (statement_ready There functions g count (λ n less. less) free (λ n less. less)
        (declares a) a scope (scope_of sources) sounds is places
        (omega (arith, few, counts.1)) (λ n i. i) (λ n i le. are.has.1 n i) are.has.0) loaded

    scan_done : StatementFits free ⊥ g (scope_of sources) a × Stood k keeps both fine sized w
        functions s keys sources (changes a) There there are.called free room IsOuter IsIn
        (scope_behind g (scope_of sources) a).homes its.after
        × AllOf (Tells k keeps both fine sized w functions s keys sources (changes a) There there
        are.called free room IsOuter IsIn) (wanted_in a)
    scan_done =
        statement_done k keeps both fine sized w functions s keys sources (changes a) There there
        are.called free room IsOuter IsIn a scope (scope_of sources) begun its.after sounds
        (rest_between f s begun rest_s rest_begun, lengths) begun_stands is are.has.1 ready
        its.scans ends

    outer_homes : (n : ℕ) → In n (outer_assigned a) → (h : Home)
        × (find (Variable n) homes ≡ Some h)
    outer_homes n i =
        are.has.2 n i (omega (arith, outer_less functions a scope sounds is n i, few, counts.1))

    wanted_read : AllByRecursion IsIn (flat_map (λ (v : Wanted). expr_reads g homes v.expr)
        (wanted_in a))
    wanted_read =
        all_joined IsIn (λ (v : Wanted). expr_reads g homes v.expr) (wanted_in a)
        (all_then (λ (v : Wanted). AllByRecursion IsOuter (cost_of k w true v.expr s).reads)
        (λ (v : Wanted). AllByRecursion IsIn (expr_reads g homes v.expr)) (wanted_in a) scan_done.2
        (all_flat IsOuter (λ (v : Wanted). (cost_of k w true v.expr s).reads) (wanted_in a)
        (wanted_counted k w a (Deciding a (wanted_of (outer_assigned a) f))
        (numbers_from x.next (count_of (wanted_of (outer_assigned a) f))) None x sources s begun
        (changes a) from are.arrays are.components runs_s (home_small count sources are.shapes)
        (sym rest_begun.0) (sym rest_begun.2) tabled are.has.1)))

    kept_read : AllByRecursion IsIn (kept g homes a (all_elements (wanted_of (outer_assigned a) f)))
    kept_read =
        kept_told IsIn g homes a f are.has.1 outer_homes (λ n p h found i.
        outer_read k w a (Deciding a (wanted_of (outer_assigned a) f))
        (numbers_from x.next (count_of (wanted_of (outer_assigned a) f))) None x sources s begun
        (changes a) from are.arrays are.components runs_s (home_small count sources are.shapes)
        (sym rest_begun.0) (sym rest_begun.2) tabled are.has.1 n p h found i)

    decision_reads : AreReadAll step sources
    decision_reads =
        cells_of_few sources _ step.reads are.few
        (all_append IsIn (flat_map (λ (v : Wanted). expr_reads g homes v.expr) (wanted_in a))
        (kept g homes a (all_elements (wanted_of (outer_assigned a) f))) wanted_read kept_read)

    decision_fits : StepFits keys sources count (step_task step)
    decision_fits = record {
      shapes = are.shapes;
      list = are.list;
      fits = (
        scan_done.0,
        wanted_fit homes f (λ n h e. (whole n h e).1) (outer_assigned a) outer_homes,
      );
    }

  pub decision_sound : IsSoundStep step
  decision_sound keys sources are = (
    lowered_step keys step sources are (decision_reads keys sources are)
        (wanted_count x.next (wanted_of (outer_assigned a) f)),
    decision_fits keys sources are,
  )
