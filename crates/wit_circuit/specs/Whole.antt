-- The code of a whole circuit, with where its steps stand and what they log.
use Rattle.std.specs.Prelude.{◌≡◌, ℕ, ◌+◌, List, [], ◌∷◌, map, Option, Some, None, Ok, ⊤}
use Rattle.wit_code.specs.declared.code.Step.{Step as CodeStep}
use Rattle.cir_ast.specs.Program.{Program}
use Rattle.cir_meaning.specs.Tried.{Where}
use Rattle.cir_meaning.specs.Bodies.{most_open}
use Rattle.cir_meaning.specs.RunStatements.{run_call}
use Rattle.cir_steps.specs.Step.{Step, LogPart as Part, Text, Logged}
use Rattle.cir_steps.specs.Circuit.{Circuit, circuit_of}
use Rattle.wit_circuit.specs.declared.code.CircuitCode.{CircuitCode}
use Rattle.wit_circuit.specs.declared.code.LogLine.{LogLine}
use Rattle.wit_circuit.specs.declared.code.LogPart.{LogPart}
use Rattle.wit_circuit.specs.declared.code.LogPart.TheVariants.{Words, Cell}
use Rattle.wit_circuit.specs.declared.code.StepPlace.{StepPlace}
use Rattle.wit_circuit.specs.declared.columns.MadeStep.{MadeStep}
use Rattle.wit_circuit.specs.Made.{AreMadeOf}

-- a place without the path of its instance
abbrev pub place_of : Where → StepPlace
place_of w = record { file = w.file; spot = w.spot; instance = w.instance }

abbrev pub part_of : Part → LogPart
part_of (Text text) = Words text
part_of (Logged c) = Cell c

abbrev pub line_of : Option (List Part) → Option (List LogPart)
line_of None = None
line_of (Some parts) = Some (map part_of parts)

-- the line of a step, if any, before those of later steps
abbrev pub log_of : ℕ → Option (List LogPart) → List LogLine → List LogLine
log_of n None logs = logs
log_of n (Some parts) logs = record { step = n; parts = parts } ∷ logs

-- the log lines of steps, which are numbered from n on
abbrev pub logs_from : ℕ → List Step → List LogLine
logs_from n [] = []
logs_from n (s ∷ ss) = log_of n (line_of s.line) (logs_from (n + 1) ss)

-- it stands for the steps of the circuit
pub record StandsFor (p : Program) (b : Circuit) (code : CircuitCode) : Type 0 where
  pub steps : AreMadeOf (run_call p most_open) code.procs b.steps code.steps
  pub cells : code.cells ≡ b.cells
  pub starts : code.starts ≡ b.starts
  pub homes : map Some code.homes ≡ b.homes
  pub places : code.places ≡ map (λ s. place_of s.place) b.steps
  pub logs : code.logs ≡ logs_from 0 b.steps

-- the code of the program's circuit
pub record IsCircuitOf (p : Program) (code : CircuitCode) : Type 0 where
  pub circuit : Circuit
  pub emitted : circuit_of p ≡ Ok circuit
  pub made : StandsFor p circuit code

-- a step as it is made has the step's place and line
pub record IsStepOf (s : Step) (m : MadeStep) : Type 0 where
  pub place : m.place ≡ place_of s.place
  pub line : m.line ≡ line_of s.line

abbrev pub AreStepsOf : List Step → List MadeStep → Type 0
AreStepsOf [] [] = ⊤
AreStepsOf [] (m ∷ ms) = ⊥
AreStepsOf (s ∷ ss) [] = ⊥
AreStepsOf (s ∷ ss) (m ∷ ms) = IsStepOf s m × AreStepsOf ss ms

abbrev pub codes_of : List MadeStep → List CodeStep
codes_of ms = map (λ m. m.code) ms
