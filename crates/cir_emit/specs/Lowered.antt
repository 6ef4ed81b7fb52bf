-- The sources of a step, and what is right of the step's code.
use Rattle.std.specs.Prelude.{◌≡◌, ℕ, ◌==◌, false, true, List, ◌++◌, length, map, Option, Some}
use Rattle.std.specs.Prelude.{None, Ok, Err, slice_get, unwrap_or}
use Rattle.std.specs.List.{list_any, AllByRecursion}
use Rattle.wit_code.specs.declared.code.Proc.{Proc}
use Rattle.wit_code.specs.Table.{Outcome, Wrote, RunsTo}
use Rattle.wit_code.specs.Code.{IsWellFormed}
use Rattle.cir_ast.specs.declared.program.Meant.{Meant}
use Rattle.cir_ast.specs.Program.{Program}
use Rattle.cir_ast.specs.Tree.{Expr}
use Rattle.cir_meaning.specs.Places.{is_inside}
use Rattle.cir_meaning.specs.Arrays.{Shaped, single}
use Rattle.cir_meaning.specs.Bodies.{most_open}
use Rattle.cir_meaning.specs.Costs.{Made}
use Rattle.cir_meaning.specs.RunValues.{index_out}
use Rattle.cir_meaning.specs.RunStatements.{run_call}
use Rattle.cir_steps.specs.Step.{Source, Constant, Cell, Step}
use Rattle.cir_steps.specs.RunSteps.{Cells, shaped_map, environment_at, store_at, work_numbers}
use Rattle.wit_lower.specs.Homes.{Name, Variable, Signal, Port, Home, Ground, find, offset}
use Rattle.wit_lower.specs.Homes.{slots_of}
use Rattle.wit_lower.specs.Sources.{Input, Constant as ConstantInput, Cell as CellInput, Sources}
use Rattle.wit_lower.specs.Sources.{scope_of, input_of, cells_read}
use Rattle.wit_lower.specs.Tasks.{IsOutcome, step_ground}
use Rattle.wit_lower.specs.Steps.{count_of}
use Rattle.wit_lower.specs.Procedures.{IsTable}
use Rattle.cir_emit.specs.Tasks.{step_task}
use Rattle.cir_emit.specs.Reads.{Reading, task_reads}

-- where a step has the elements of its arrays from; an element of a signal has a cell, or none
abbrev pub source_input : Source → Option Input
source_input (Constant k) = Some (ConstantInput k)
source_input (Cell c) = Some (CellInput c)

abbrev pub cell_input : Option ℕ → Option Input
cell_input None = None
cell_input (Some c) = Some (CellInput c)

abbrev pub sourced : List (Shaped Source) → ℕ → Shaped Source
sourced variables n = unwrap_or (slice_get variables n) (single (Constant 0))

-- what a name is in a step: a variable, or the signal that the step's names give
abbrev pub IsIn : Step → (components : ℕ → List ℕ) → Name → Shaped (Option Input) → Type 0
IsIn step components (Variable n) d = d ≡ shaped_map source_input (sourced step.variables n)
IsIn step components (Signal n) d =
    (s : Shaped (Option ℕ)) × (step.names.signal n ≡ Some s) × (d ≡ shaped_map cell_input s)
IsIn step components (Port n j name) d =
    (indices : List ℕ) → is_inside (components n) (map Some indices) ≡ true
    → length indices ≡ length (components n) → offset (components n) indices ≡ j
    → (s : Shaped (Option ℕ)) × (step.names.part n indices name ≡ Ok s) ×
    (d ≡ shaped_map cell_input s)

-- a name that has a home has it for the step's array, and what the sources have of its elements is
-- the step's
pub record HasArray (step : Step) (sources : Sources) (x : Name) (h : Home) : Type 0 where
  pub array : Shaped (Option Input)
  pub is : IsIn step sources.components x array
  pub dims : array.dims ≡ h.dims
  pub count : length array.items ≡ slots_of h.dims
  pub each : (k : ℕ) (i : Input) → input_of x sources.list k ≡ Some i
      → slice_get array.items k ≡ Some (Some i)

pub record IsLoaded (sources : Sources) (r : Reading) : Type 0 where
  pub input : Input
  pub there : input_of r.name sources.list r.element ≡ Some input

abbrev pub AreLoaded : Sources → List Reading → Type 0
AreLoaded sources reads = AllByRecursion (IsLoaded sources) reads

abbrev pub lowered_ground : List Made → Step → Sources → Ground
lowered_ground keys step sources = step_ground keys sources (step_task step)

-- the sources are the step's: each element that may be read has one. Cells are read that the step
-- may read, and no others. The code writes a number for each target of the step.
pub record IsLoweredStep (keys : List Made) (step : Step) (sources : Sources) : Type 0 where
  pub arrays : (x : Name) (h : Home) → find x (scope_of sources).homes ≡ Some h
      → HasArray step sources x h
  pub outside : (n : ℕ) (indices name : List ℕ)
      → is_inside (sources.components n) (map Some indices) ≡ false
      → step.names.part n indices name ≡ Err index_out
  pub called : (e : Expr Meant) → sources.called e ≡ step.names.known e
  pub loaded : AreLoaded sources
      (task_reads (lowered_ground keys step sources) (scope_of sources).homes (step_task step))
  pub reads : (c : ℕ) → list_any (λ d. d == c) (cells_read sources.list) ≡ true
      → list_any (λ d. d == c) step.reads ≡ true
  pub count : count_of (lowered_ground keys step sources) (scope_of sources).homes
      (step_task step) ≡ length step.targets

-- the cells that are read have numbers
abbrev pub HaveNumbers : Cells → (numbers : ℕ → ℕ) → (reads : List ℕ) → Type 0
HaveNumbers cells numbers reads =
    (c : ℕ) → list_any (λ d. d == c) reads ≡ true → cells c ≡ Some (numbers c)

-- over every table that begins with these keys the code is well formed, writes a number for each
-- target, and does what the step does, with as many units, whatever numbers it reads
pub record IsStepRight (program : Program) (keys : List Made) (step : Step) (reads : List ℕ)
    (code : Proc) : Type 0 where
  pub formed : (later : List Made) (procs : List Proc) → IsTable program (keys ++ later) procs
      → IsWellFormed procs (length reads) code
  pub counted : (later : List Made) (procs : List Proc) → IsTable program (keys ++ later) procs
      → (numbers : List ℕ) (fuel : ℕ) (values : List ℕ)
      → RunsTo procs code numbers fuel (Wrote values) → length values ≡ length step.targets
  pub runs : (later : List Made) (procs : List Proc) → IsTable program (keys ++ later) procs
      → (cells : Cells) (numbers : ℕ → ℕ) → HaveNumbers cells numbers reads → (fuel : ℕ)
      (outcome : Outcome)
      → IsOutcome (work_numbers (environment_at (run_call program most_open) cells step.names)
      (store_at cells step.variables) step.work fuel) outcome
      → RunsTo procs code (map numbers reads) fuel outcome
