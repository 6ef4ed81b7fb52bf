-- What the outcome of a circuit's flow tells of the program's run.
use Rattle.std.specs.Prelude.{◌≡◌, ℕ, List, [], map, take, Some, Ok, Err}
use Rattle.wit_code.specs.Table.{stop_number}
use Rattle.wit_flow.specs.declared.flow.Outcome.{Outcome}
use Rattle.wit_flow.specs.declared.flow.Outcome.TheVariants.{Done, Refused}
use Rattle.wit_flow.specs.Cells.{held}
use Rattle.cir_ast.specs.Program.{Program}
use Rattle.cir_meaning.specs.Run.{RunTried, Rejected, Stopped}
use Rattle.cir_meaning.specs.RunBodies.{Ending}
use Rattle.cir_steps.specs.Step.{Step}
use Rattle.cir_steps.specs.RunSteps.{Progress, in_cell}
use Rattle.cir_steps.specs.Circuit.{Circuit}
use Rattle.wit_circuit.specs.Ending.{lines_of, ran_from, StandsAt}

-- the run of the circuit's steps from its start cells
abbrev pub steps_ran : Program → (fuel : ℕ) → (inputs : List ℕ) → Circuit → RunTried Progress
steps_ran p fuel inputs b = ran_from p fuel b.starts inputs b.steps

-- Where all steps ended, the run did: the numbers of the signals stand in their cells. Where one
-- stopped, the run stopped so at its place. The log lines are those of the steps before it.
abbrev pub Tells : Circuit → Outcome → RunTried Ending → Type 0
Tells b (Done values) (Ok end) =
    (end.values ≡ map (in_cell (held (map Some values))) b.homes)
    × (end.log ≡ lines_of (held (map Some values)) b.steps [])
Tells b (Done values) (Err e) = ⊥
Tells b (Refused n stop cells) (Ok end) = ⊥
Tells b (Refused n stop cells) (Err (Rejected e)) = ⊥
Tells b (Refused n stop cells) (Err (Stopped number w log)) =
    (s : Step) × StandsAt b.steps n s × (s.place ≡ w) × (stop_number stop ≡ Some number)
    × (log ≡ lines_of (held cells) (take n b.steps) [])
