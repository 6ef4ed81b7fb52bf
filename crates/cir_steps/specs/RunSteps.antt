-- What steps do, one after the other.
use Rattle.std.specs.Prelude.{ℕ, if◌then◌else◌, nat_eq, List, [], ◌∷◌, ◌++◌, map, flat_map, Option}
use Rattle.std.specs.Prelude.{Some, None, Result, Ok, Err, slice_index, unwrap_or}
use Rattle.std.specs.Fmt.{decimal}
use Rattle.cir_ast.specs.declared.program.Meant.{Meant}
use Rattle.cir_ast.specs.declared.program.Meant.TheVariants as meant
use Rattle.cir_ast.specs.Tree.{LogArgument, Words, LogValue}
use Rattle.cir_meaning.specs.Tried.{next}
use Rattle.cir_meaning.specs.Arrays.{Shaped}
use Rattle.cir_meaning.specs.Places.{numbers_from}
use Rattle.cir_meaning.specs.RunValues.{Ran, Numbers, Environment, Store, stored, gives, number}
use Rattle.cir_meaning.specs.RunValues.{number_in}
use Rattle.cir_meaning.specs.RunStatements.{step_set, step_statement}
use Rattle.cir_meaning.specs.RunSimple.{sides}
use Rattle.cir_meaning.specs.RunBodies.{asserted, log_line, store_in}
use Rattle.cir_meaning.specs.Run.{RunTried, Stopped}
use Rattle.cir_steps.specs.Step.{Source, Constant, Cell, Elements, Work, Valuing, Assigning}
use Rattle.cir_steps.specs.Step.{Comparing, Asserting, Logging, Deciding, LogPart, Text, Logged}
use Rattle.cir_steps.specs.Step.{Step}

-- the cells that have a number
abbrev pub Cells : Type 0
Cells = ℕ → Option ℕ

abbrev pub in_cell : Cells → Option ℕ → Option ℕ
in_cell cells None = None
in_cell cells (Some c) = cells c

abbrev pub from : Cells → Source → ℕ
from cells (Constant k) = k
from cells (Cell c) = unwrap_or (cells c) 0

abbrev pub shaped_map : {A B : Type 0} → (A → B) → Shaped A → Shaped B
shaped_map f d = record { dims = d.dims; items = map f d.items }

abbrev pub signal_numbers : Cells → Option (Shaped (Option ℕ)) → Option (Shaped (Option ℕ))
signal_numbers cells None = None
signal_numbers cells (Some d) = Some (shaped_map (in_cell cells) d)

abbrev pub part_numbers : Cells → Result (Shaped (Option ℕ)) ℕ → Result (Shaped (Option ℕ)) ℕ
part_numbers cells (Ok d) = Ok (shaped_map (in_cell cells) d)
part_numbers cells (Err stop) = Err stop

-- what a step reads
abbrev pub Calling : Type 0
Calling = ℕ → List Numbers → ℕ → Ran Numbers

abbrev pub environment_at : Calling → Cells → Environment → Environment
environment_at call cells names = record {
  signal = λ n. signal_numbers cells (names.signal n);
  part = λ n indices name. part_numbers cells (names.part n indices name);
  known = names.known;
  call = call;
}

abbrev pub store_at : Cells → List (Shaped Source) → Store
store_at cells variables = map (shaped_map (from cells)) variables

-- the numbers of a log line's values
abbrev pub log_numbers : Environment → Store → List (LogArgument Meant) → ℕ → Ran (List ℕ)
log_numbers env store [] units = gives [] units
log_numbers env store (Words text ∷ rest) units = log_numbers env store rest units
log_numbers env store (LogValue e ∷ rest) units =
    number (number_in env store e units) (λ n u1. next (log_numbers env store rest u1)
    (λ (ns, u2). gives (n ∷ ns) u2))

abbrev pub elements_of : Store → List Elements → List ℕ
elements_of store wanted =
    flat_map (λ x. map (slice_index (stored store x.variable).items) (numbers_from 0 x.count))
    wanted

-- the numbers that a step gives
abbrev pub work_numbers : Environment → Store → Work → ℕ → Ran (List ℕ)
work_numbers env store (Valuing e) units =
    next (number_in env store e units) (λ (d, u1). gives d.items u1)
work_numbers env store (Assigning n accessors e places) units =
    next (step_set env (meant.Variable n) accessors e store units)
    (λ (new, u1). gives (map (slice_index (stored new n).items) places) u1)
work_numbers env store (Comparing a b) units =
    next (sides env store a b units) (λ (u, u1). gives [] u1)
work_numbers env store (Asserting e) units =
    next (asserted env store e units) (λ (u, u1). gives [] u1)
work_numbers env store (Logging arguments) units = log_numbers env store arguments units
work_numbers env store (Deciding a wanted) units =
    next (step_statement env a store units)
    (λ (flow, u1). gives (elements_of (store_in flow store) wanted) u1)

abbrev pub put_cell : (cell value : ℕ) → Cells → Cells
put_cell cell value cells c = if nat_eq cell c then Some value else cells c

abbrev pub put_cells : (targets values : List ℕ) → Cells → Cells
put_cells [] values cells = cells
put_cells (t ∷ targets) [] cells = cells
put_cells (t ∷ targets) (v ∷ values) cells = put_cells targets values (put_cell t v cells)

-- a line has strings and decimal numbers
abbrev pub part_text : Cells → LogPart → List ℕ
part_text cells (Text text) = text
part_text cells (Logged c) = decimal (unwrap_or (cells c) 0)

abbrev pub with_line : Cells → Option (List LogPart) → List (List ℕ) → List (List ℕ)
with_line cells None log = log
with_line cells (Some parts) log = log ++ log_line (map (part_text cells) parts) ∷ []

pub record Progress : Type 0 where
  pub cells : Cells
  pub log : List (List ℕ)

abbrev pub stopping : {A : Type 0} → Step → List (List ℕ) → Ran A → RunTried A
stopping step log (Ok (a, units)) = Ok a
stopping step log (Err stop) = Err (Stopped stop step.place log)

abbrev pub written : Step → Progress → List ℕ → Progress
written step p values = record {
  cells = put_cells step.targets values p.cells;
  log = with_line (put_cells step.targets values p.cells) step.line p.log;
}

-- each step begins with the same units
abbrev pub run_step : Calling → (fuel : ℕ) → Step → Progress → RunTried Progress
run_step call fuel step p =
    next (stopping step p.log (work_numbers (environment_at call p.cells step.names)
    (store_at p.cells step.variables) step.work fuel)) (λ values. Ok (written step p values))

abbrev pub run_steps : Calling → (fuel : ℕ) → List Step → Progress → RunTried Progress
run_steps call fuel [] p = Ok p
run_steps call fuel (step ∷ steps) p =
    next (run_step call fuel step p) (run_steps call fuel steps)
