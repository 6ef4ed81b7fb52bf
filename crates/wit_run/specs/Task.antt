-- The code of a program's circuit, on the inputs of its main component.
use Rattle.std.specs.Prelude.{◌≡◌, ℕ, ◌+◌, ◌<◌, ◌∷◌, List, length, map, Some, Ok, slice_get}
use Rattle.std.specs.Prelude.{slice_index, ⊤}
use Rattle.wit_flow.specs.declared.flow.Outcome.{Outcome}
use Rattle.wit_flow.specs.declared.flow.Outcome.TheVariants.{Done, Refused}
use Rattle.wit_flow.specs.Cells.{held}
use Rattle.cir_ast.specs.Program.{Program}
use Rattle.cir_meaning.specs.Compile.{Circuit as Compiled, compiled}
use Rattle.cir_meaning.specs.Scoped.{IsResolved}
use Rattle.cir_steps.specs.Places.{ArePlacesMeant}
use Rattle.wit_circuit.specs.declared.code.CircuitCode.{CircuitCode}
use Rattle.wit_circuit.specs.Whole.{IsCircuitOf}
use Rattle.wit_run.specs.declared.ending.RunEnd.{RunEnd}
use Rattle.wit_run.specs.declared.ending.RunEnd.TheVariants.{Ended, Stopped}
use Rattle.wit_run.specs.declared.running.CutCircuit.{CutCircuit}
use Rattle.wit_run.specs.Lines.{lines_before}

-- the code that was cut
abbrev pub code_in : CutCircuit → CircuitCode
code_in x = record {
  steps = x.flow.steps;
  procs = x.flow.procs;
  cells = x.flow.graph.cells;
  starts = x.flow.starts;
  homes = x.homes;
  places = x.places;
  logs = x.logs;
}

-- The program compiles, this is the code of its circuit, and the numbers at the start are 1 and as
-- many inputs as its main component has.
pub record IsTask (p : Program) (code : CircuitCode) (start inputs : List ℕ) : Type 0 where
  pub resolved : IsResolved p
  pub places : ArePlacesMeant p
  pub meaning : Compiled
  pub compiles : compiled p ≡ Ok meaning
  pub made : IsCircuitOf p code
  pub begins : start ≡ 1 ∷ inputs
  pub each : length inputs ≡ meaning.public_inputs + meaning.private_inputs

-- a step that stops has a place
abbrev pub HasPlace : CircuitCode → Outcome → Type 0
HasPlace code (Done values) = ⊤
HasPlace code (Refused n stop cells) = n < length code.places

-- how a run of the code ends with this outcome
abbrev pub EndsBy : CircuitCode → Outcome → RunEnd → Type 0
EndsBy code (Done values) (Ended numbers log) =
    (numbers ≡ map (slice_index values) code.homes)
    × (log ≡ lines_before (length code.places) (held (map Some values)) code.logs)
EndsBy code (Done values) (Stopped stop place log) = ⊥
EndsBy code (Refused n stop cells) (Ended numbers log) = ⊥
EndsBy code (Refused n stop cells) (Stopped so place log) =
    (so ≡ stop) × (slice_get code.places n ≡ Some place)
    × (log ≡ lines_before n (held cells) code.logs)
