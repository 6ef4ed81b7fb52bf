-- When machine code stands for a step of a circuit.
use Rattle.std.specs.Prelude.{◌≡◌, ◌≢◌, ℕ, List, [], ◌∷◌, map, length, Some, Ok, Err, ⊤}
use Rattle.wit_code.specs.declared.code.Proc.{Proc}
use Rattle.wit_code.specs.declared.code.Step.{Step as CodeStep}
use Rattle.wit_code.specs.Code.{IsWellFormed}
use Rattle.wit_code.specs.declared.code.Stop.{Stop}
use Rattle.wit_code.specs.Table.{Outcome, Wrote, Stopped, RunsTo, stop_number}
use Rattle.cir_meaning.specs.RunValues.{Ran, missing}
use Rattle.flow_core.specs.Counts.{IsIn}
use Rattle.cir_steps.specs.Step.{Step}
use Rattle.cir_steps.specs.RunSteps.{Calling, Cells, environment_at, store_at, work_numbers}

-- what a step gives on these cells, with as many units
abbrev pub step_numbers : Calling → Cells → Step → (fuel : ℕ) → Ran (List ℕ)
step_numbers call cells s fuel =
    work_numbers (environment_at call cells s.names) (store_at cells s.variables) s.work fuel

-- code that runs so ends as a step does; of a step that misses a number nothing is said
abbrev pub EndsAs : Ran (List ℕ) → (Outcome → Type 0) → Type 0
EndsAs (Ok (values, units)) Runs = Runs (Wrote values)
EndsAs (Err stop) Runs =
    stop ≢ missing → (at : Stop) × (stop_number at ≡ Some stop) × Runs (Stopped at)

-- The code reads no cells but the step's, and writes the step's, in order, a number for each. Where
-- the cells that it reads hold these numbers, its run on them ends as the step does.
pub record IsMadeOf (call : Calling) (procs : List Proc) (s : Step) (m : CodeStep) : Type 0 where
  pub reads : (c : ℕ) → IsIn c m.reads → IsIn c s.reads
  pub writes : m.writes ≡ s.targets
  pub formed : IsWellFormed procs (length m.reads) m.code
  pub counted : (numbers values : List ℕ) (fuel : ℕ)
      → RunsTo procs m.code numbers fuel (Wrote values) → length values ≡ length s.targets
  pub does : (cells : Cells) (numbers : List ℕ) (fuel : ℕ)
      → map cells m.reads ≡ map Some numbers
      → EndsAs (step_numbers call cells s fuel) (RunsTo procs m.code numbers fuel)

abbrev pub AreMadeOf : Calling → List Proc → List Step → List CodeStep → Type 0
AreMadeOf call procs [] [] = ⊤
AreMadeOf call procs [] (m ∷ ms) = ⊥
AreMadeOf call procs (s ∷ ss) [] = ⊥
AreMadeOf call procs (s ∷ ss) (m ∷ ms) = IsMadeOf call procs s m × AreMadeOf call procs ss ms
