-- What the ending of the code of all steps tells of the run of a circuit.
use Rattle.std.specs.Prelude.{◌≡◌, ◌≢◌, ℕ, List, [], ◌∷◌, take, Some, None, Ok, Err, slice_get}
use Rattle.wit_code.specs.declared.code.Proc.{Proc}
use Rattle.wit_code.specs.declared.code.Step.{Step as CodeStep}
use Rattle.wit_code.specs.Table.{stop_number}
use Rattle.wit_flow.specs.Cells.{no_values, with_values}
use Rattle.wit_flow.specs.Run.{writes_in, run_steps as run_code}
use Rattle.wit_flow.specs.OneThread.{Ending, Ended, Halted, ending}
use Rattle.cir_ast.specs.Program.{Program}
use Rattle.cir_meaning.specs.Tried.{Where}
use Rattle.cir_meaning.specs.Bodies.{most_open}
use Rattle.cir_meaning.specs.RunValues.{missing}
use Rattle.cir_meaning.specs.RunStatements.{run_call}
use Rattle.cir_meaning.specs.Run.{RunTried, Rejected, Stopped}
use Rattle.cir_steps.specs.Step.{Step}
use Rattle.cir_steps.specs.RunSteps.{Cells, put_cells, with_line, Progress, run_steps}

-- the log lines of steps, from what the cells hold behind them
abbrev pub lines_of : Cells → List Step → List (List ℕ) → List (List ℕ)
lines_of cells [] log = log
lines_of cells (s ∷ ss) log = lines_of cells ss (with_line cells s.line log)

-- the steps run from start cells that hold these numbers
abbrev pub ran_from : Program → (fuel : ℕ) → (starts inputs : List ℕ) → List Step
    → RunTried Progress
ran_from p fuel starts inputs steps =
    run_steps (run_call p most_open) fuel steps
    record { cells = put_cells starts inputs (λ c. None); log = [] }

-- no number that is wanted is missing
abbrev pub NeverMisses : RunTried Progress → Type 0
NeverMisses r = (w : Where) (log : List (List ℕ)) → r ≢ Err (Stopped missing w log)

-- all code, one step after the other, from start cells that hold these numbers
abbrev pub code_ending : List Proc → (fuel : ℕ) → List CodeStep → (starts inputs : List ℕ)
    → Ending
code_ending procs fuel ms starts inputs =
    ending (with_values no_values starts inputs) (writes_in ms)
    (run_code procs fuel 0 ms (with_values no_values starts inputs))

-- the step of this number stands there
pub record StandsAt (steps : List Step) (n : ℕ) (s : Step) : Type 0 where
  pub there : slice_get steps n ≡ Some s

-- Where the circuit's run ends, so does the code's, with the same numbers in all cells. Where it
-- stops, the code's does, with the same stop at a step of the same place. The log lines are those
-- of the steps that ended.
abbrev pub IsEnding : List Step → RunTried Progress → Ending → Type 0
IsEnding steps (Ok end) (Ended cells) =
    (cells ≡ end.cells) × (end.log ≡ lines_of cells steps [])
IsEnding steps (Ok end) (Halted n at cells) = ⊥
IsEnding steps (Err (Rejected e)) o = ⊥
IsEnding steps (Err (Stopped stop w log)) (Ended cells) = ⊥
IsEnding steps (Err (Stopped stop w log)) (Halted n at cells) =
    (s : Step) × StandsAt steps n s × (s.place ≡ w) × (stop_number at ≡ Some stop)
    × (log ≡ lines_of cells (take n steps) [])
