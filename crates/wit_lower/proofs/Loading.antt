-- The sources are loaded, and then the step does its task.
use Rattle.std.proofs.Common.{◌≡◌, ℕ, zero, suc, ◌+◌, ◌<◌, ◌≤◌, true, false, List, [], ◌∷◌, ◌++◌}
use Rattle.std.proofs.Common.{length, map, replicate, Option, Some, None, Result, refl, sym, ap}
use Rattle.std.proofs.Common.{subst, ◌∙◌, arith, length-append, length-set}
use Rattle.std.specs.Prelude.{slice_get, slice_index, slice_set, ◌==◌}
use Rattle.std.specs.List.{list_any}
use Rattle.std.proofs.lemmas.List.{length-replicate}
use Rattle.std.proofs.lemmas.Option.{slice_get_past}
use Rattle.wit_code.specs.declared.code.Op.TheVariants as op
use Rattle.wit_code.specs.declared.code.Proc.{Proc}
use Rattle.wit_code.specs.declared.frames.Running.TheVariants.{Own}
use Rattle.wit_code.specs.Table.{State, Outcome, Goes, RunsTo}
use Rattle.cir_ast.specs.declared.program.Meant.{Meant}
use Rattle.cir_ast.specs.declared.program.Spot.{Spot as Place}
use Rattle.cir_ast.specs.Program.{Program}
use Rattle.cir_ast.specs.Tree.{Assign, Assigned, Statement, Ended as EndedBy}
use Rattle.cir_meaning.specs.Bodies.{most_open}
use Rattle.cir_meaning.specs.Costs.{Made}
use Rattle.cir_meaning.specs.Places.{numbers_from}
use Rattle.cir_meaning.specs.Unknown.{writes, declares}
use Rattle.cir_meaning.specs.RunValues.{Ran, Numbers, Environment, Store}
use Rattle.cir_meaning.specs.RunStatements.{run_call}
use Rattle.wit_lower.specs.Homes.{Variable, Home, Homes, Scope, Ground, find}
use Rattle.wit_lower.specs.Pieces.{Code}
use Rattle.wit_lower.specs.Procedures.{IsTable, params_at}
use Rattle.wit_lower.specs.Sources.{Input, Constant, Cell, Source, Sources, scope_of, cells_read}
use Rattle.wit_lower.specs.Sources.{place_of, load_code, source_code, sources_code, number_at}
use Rattle.wit_lower.specs.Sources.{signal_at, environment_of, all_numbers, store_of}
use Rattle.wit_lower.specs.Known.{changes}
use Rattle.wit_lower.specs.Fits.{AreLaid}
use Rattle.wit_lower.specs.Steps.{TaskFits, StepFits}
use Rattle.wit_lower.specs.Tasks.{Element, Task, Gives, Equal, Logs, Executes, done_by, changed_by}
use Rattle.wit_lower.specs.Tasks.{step_ground, task_code, step_code, meant_by, IsOutcome}
use Rattle.wit_lower.proofs.Does.{Setting, Does, HasAt, has_front, has_back, has_itself}
use Rattle.wit_lower.proofs.Spots.{Spot, here, body_at, IsWide, op_goes, at_place}
use Rattle.wit_lower.proofs.Shows.{Shows, KnownAt}
use Rattle.wit_lower.proofs.Scopes.{stored_other}
use Rattle.wit_lower.proofs.CellsRead.{IsRead, AreRead, all_read, read_is}
use Rattle.wit_lower.proofs.Shown.{loaded_one, loaded, have_slots, shapes_laid, step_shows}
use Rattle.wit_lower.proofs.Knowing.{Keeps, number_is}
use Rattle.wit_lower.proofs.Listed.{In, in_front, in_back, statement_listed, by_changes}
use Rattle.wit_lower.proofs.Exprs.{CallsRun}
use Rattle.wit_lower.proofs.Depth.{named_most, calls_run}
use Rattle.wit_lower.proofs.Ending.{own_spot, Ended, ends_as, task_does, assigns_does}

pub loaded_length : (homes : Homes) (xs : List Source) (cells : ℕ → ℕ) (f : List ℕ)
    → length (loaded homes xs cells f) ≡ length f
loaded_length homes [] cells f = refl
loaded_length homes (x ∷ xs) cells f =
    loaded_length homes xs cells (loaded_one (find x.name homes) x cells f) ∙
    one (find x.name homes)
  where
    one : (o : Option Home) → length (loaded_one o x cells f) ≡ length f
    one None = refl
    one (Some h) = length-set f (h.base + x.element) (number_at cells x.input)

module _ (k : Setting) (cells : ℕ → ℕ) (order : List ℕ) (reads_are : k.reads ≡ map cells order)
    (sp : Spot) (homes : Homes) where
  load_goes : {A : Type 0} (Q : A → State → Type 0) (m : Result A ℕ) (i : Input) (s p : ℕ)
      (f : List ℕ) (u : ℕ) → IsRead order i
      → slice_get (body_at k sp) p ≡ Some (load_code order i s)
      → Does k (here sp (p + 1) (slice_set f s (number_at cells i)) u) m Q
      → Does k (here sp p f u) m Q
  load_goes Q m (Constant v) s p f u read e d =
      op_goes k sp Q p f u (op.Const s v) (here sp (p + 1) (slice_set f s v) u) m e refl d
  load_goes Q m (Cell c) s p f u read e d =
      op_goes k sp Q p f u (op.Read s (place_of c order))
      (here sp (p + 1) (slice_set f s (cells c)) u) m e
      (ap (λ v. Goes (here sp (p + 1) (slice_set f s v) u))
      (ap (λ r. slice_index r (place_of c order)) reads_are ∙ read_is cells c order read)) d

  sources_go : {A : Type 0} (Q : A → State → Type 0) (m : Result A ℕ) (xs : List Source) (p : ℕ)
      (f : List ℕ) (u : ℕ) → AreRead order xs
      → HasAt (body_at k sp) p (sources_code order homes xs)
      → Does k (here sp (p + length (sources_code order homes xs)) (loaded homes xs cells f) u) m Q
      → Does k (here sp p f u) m Q
  sources_go Q m [] p f u read at d = at_place k sp Q (p + 0) p f u m (omega arith) d
  sources_go Q m (x ∷ xs) p f u (rx, read) at d =
      one (find x.name homes) at d
      (λ q f1 at1 d1. sources_go Q m xs q f1 u read at1 d1)
    where
      rest : Code
      rest = sources_code order homes xs

      one : (o : Option Home) → HasAt (body_at k sp) p (source_code order o x ++ rest)
          → Does k (here sp (p + length (source_code order o x ++ rest))
          (loaded homes xs cells (loaded_one o x cells f)) u) m Q
          → ((q : ℕ) (f1 : List ℕ) → HasAt (body_at k sp) q rest
          → Does k (here sp (q + length rest) (loaded homes xs cells f1) u) m Q
          → Does k (here sp q f1 u) m Q)
          → Does k (here sp p f u) m Q
      one None at d more = more p f at d
      one (Some h) (e, at) d more =
          let f1 : List ℕ = slice_set f (h.base + x.element) (number_at cells x.input) in
          load_goes Q m x.input (h.base + x.element) p f u rx e
          (more (p + 1) f1 at
          (at_place k sp Q (p + suc (length rest)) (p + 1 + length rest)
          (loaded homes xs cells f1) u m (omega arith) d))

from_long : {A : Type 0} (F : ℕ → A) (o n : ℕ) → length (map F (numbers_from o n)) ≡ n
from_long F o zero = refl
from_long F o (suc n) = ap (λ m. suc m) (from_long F (o + 1) n)

module _ (program : Program) (keys : List Made) (sources : Sources) (variables : ℕ) (task : Task)
    (fits : StepFits keys sources variables task) (later : List Made) (procs : List Proc)
    (table : IsTable program (keys ++ later) procs) (cells : ℕ → ℕ) (fuel : ℕ)
    (outcome : Outcome) where
  abbrev g : Ground
  g = step_ground keys sources task

  abbrev env : Environment
  env = environment_of sources cells (run_call program most_open)

  -- the variables with which the step begins
  abbrev first : Store
  first = store_of sources cells variables

  abbrev meaning : Ran (List ℕ)
  meaning = done_by env first task fuel

  abbrev own : Proc
  own = step_code g sources task

  abbrev order : List ℕ
  order = cells_read sources.list

  abbrev k : Setting
  k = record { procs = procs; own = own; reads = map cells order }

  abbrev sp : Spot
  sp = record { running = Own; others = []; written = [] }

  abbrev s : Scope
  s = scope_of sources

  abbrev one : Code
  one = sources_code order s.homes sources.list

  abbrev two : Code
  two = task_code g s (0 + length one) task

  abbrev frame : List ℕ
  frame = loaded s.homes sources.list cells (replicate own.slots 0)

  at : HasAt (one ++ two) 0 (one ++ two)
  at = has_itself [] (one ++ two)

  wide : IsWide (params_at keys) own.slots (one ++ two)
  wide p o e = named_most (params_at keys) (one ++ two) p o e

  first_long : variables ≤ length first
  first_long = omega (
    arith,
    from_long (λ n. all_numbers (signal_at sources cells (Variable n))) 0 variables,
  )

  -- what the task does, from each frame that shows the variables
  abbrev TaskDoes : Type 0
  TaskDoes =
      (k : Setting) (sp : Spot) → IsWide (params_at keys) own.slots (body_at k sp)
      → ((ws : List ℕ)
      → CallsRun k (own_spot sp ws) own.slots keys (run_call program most_open))
      → AreLaid s.homes s.top → variables ≤ length first
      → ((store : Store) → Keeps (changed_by task) first store → KnownAt g env store)
      → (p : ℕ) (f : List ℕ) → Shows g env s.homes first f → length f ≡ own.slots
      → HasAt (body_at k sp) p (task_code g s p task)
      → slice_get (body_at k sp) (p + length (task_code g s p task)) ≡ None
      → Does k (here (own_spot sp []) p f fuel) meaning (Ended k [])

  pub step_does : TaskDoes → IsOutcome meaning outcome
      → RunsTo procs own (map cells order) fuel outcome
  unfolding most_open
  step_does does is =
      ends_as k (here sp 0 zeros fuel) meaning outcome
      (sources_go k cells order refl sp s.homes (Ended k []) meaning sources.list 0 zeros fuel
      (all_read sources.list [])
      (has_front (one ++ two) 0 one two at)
      (does k sp wide
      (λ ws. calls_run k program (keys ++ later) table 256 (own_spot sp ws) own.slots keys later
      refl refl wide)
      (shapes_laid variables sources.shapes record { homes = []; top = 0 } fits.shapes tt)
      first_long known (0 + length one) frame shows
      (loaded_length s.homes sources.list cells zeros ∙ length-replicate own.slots 0)
      (has_back (one ++ two) 0 one two at)
      (slice_get_past (one ++ two) (0 + length one + length two)
      (omega (arith, length-append one two))))) is
    where
      zeros : List ℕ
      zeros = replicate own.slots 0

      known : (store : Store) → Keeps (changed_by task) first store → KnownAt g env store
      known store keeps = number_is sources cells (run_call program most_open) variables
          fits.shapes fits.list (changed_by task) store keeps

      shows : Shows g env s.homes first frame
      shows = step_shows sources cells (run_call program most_open) variables fits.shapes fits.list
          own.slots (have_slots (params_at keys) own.slots (one ++ two) wide order s.homes
          sources.list 0 (has_front (one ++ two) 0 one two at)) g refl refl
          (known first (λ n e. refl))

  -- a task that changes no variable but those of its list
  abbrev Free : ℕ → Type 0
  Free n = (n < variables) × In n (changed_by task)

  abbrev Fixed : Store → Type 0
  Fixed store = Keeps (changed_by task) first store × (variables ≤ length store)

  fixed_stays : (store : Store) (n : ℕ) (d : Numbers) → Free n → Fixed store
      → Fixed (slice_set store n d)
  fixed_stays store n d (below, listed) (keeps, room) = (
    λ m other. stored_other store n m d (λ e. differ (sym listed ∙
        ap (λ i. list_any (λ j. j == i) (changed_by task)) (sym e) ∙ other)) ∙ keeps m other,
    omega (arith, room, length-set store n d),
  )
    where
      differ : true ≡ false → ⊥
      differ e = cc

  pub listed_runs : TaskFits Free g s task → IsOutcome meaning outcome
      → RunsTo procs own (map cells order) fuel outcome
  listed_runs listed is =
      step_does (λ k sp wide calls laid long known p f shows len at past.
      task_does k sp (params_at keys) own.slots wide g env calls Fixed Free
      (λ store fixed. known store fixed.0) fixed_stays
      (λ store n free fixed. omega (arith, free.0, fixed.1)) s laid first (λ n e. refl, long) task p
      f fuel listed shows len at past) is

-- a step does what its task means
module _ (program : Program) (keys : List Made) (sources : Sources) (variables : ℕ)
    (later : List Made) (procs : List Proc) (table : IsTable program (keys ++ later) procs)
    (cells : ℕ → ℕ) (fuel : ℕ) (outcome : Outcome) where
  abbrev Runs : Task → Type 0
  Runs task =
      StepFits keys sources variables task
      → IsOutcome (meant_by program sources variables task cells fuel) outcome
      → RunsTo procs (step_code (step_ground keys sources task) sources task)
      (map cells (cells_read sources.list)) fuel outcome

  assignment_runs : (targets : List Element) (spot : Place) (a : Assign Meant)
      → Runs (Executes (EndedBy spot (Assigned a)) targets)
  assignment_runs targets spot a fits is =
      let task : Task = Executes (EndedBy spot (Assigned a)) targets in
      let g : Ground = step_ground keys sources task in
      step_does program keys sources variables task fits later procs table cells fuel outcome
      (λ k sp wide calls laid long known p f shows len at past.
      assigns_does k sp (params_at keys) (step_code g sources task).slots wide g
      (environment_of sources cells (run_call program most_open)) calls variables
      (scope_of sources) laid (store_of sources cells variables) long spot a targets p f fuel
      fits.fits.0 fits.fits.1 shows len at past) is

  other_runs : (targets : List Element) (a : Statement Place Meant)
      → changes a ≡ writes a ++ declares a → Runs (Executes a targets)
  other_runs targets a e fits is =
      let task : Task = Executes a targets in
      let g : Ground = step_ground keys sources task in
      listed_runs program keys sources variables task fits later procs table cells fuel outcome (
        statement_listed (λ n. n < variables) ⊥ g (changes a) (scope_of sources) a
            (λ n h. subst (In n) (sym e) (in_front n (writes a) (declares a) h))
            (λ n h. subst (In n) (sym e) (in_back n (writes a) (declares a) h)) fits.fits.0,
        fits.fits.1,
      ) is

  pub step_runs : (task : Task) → Runs task
  step_runs (Gives e) fits is =
      listed_runs program keys sources variables (Gives e) fits later procs table cells fuel outcome
      fits.fits is
  step_runs (Equal a b) fits is =
      listed_runs program keys sources variables (Equal a b) fits later procs table cells fuel
      outcome fits.fits is
  step_runs (Logs es) fits is =
      listed_runs program keys sources variables (Logs es) fits later procs table cells fuel outcome
      fits.fits is
  step_runs (Executes a targets) fits is =
      by_changes (λ b. Runs (Executes b targets)) (assignment_runs targets) (other_runs targets) a
      fits is
