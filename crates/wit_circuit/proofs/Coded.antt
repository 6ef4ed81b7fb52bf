-- The code of the steps of a circuit, each with its sources, stands for them.
use Rattle.std.proofs.Common.{List, [], ◌∷◌, subst}
use Rattle.wit_code.specs.declared.code.Proc.{Proc}
use Rattle.wit_code.specs.declared.code.Step.{Step as CodeStep}
use Rattle.cir_ast.specs.Program.{Program}
use Rattle.cir_meaning.specs.Bodies.{most_open}
use Rattle.cir_meaning.specs.Costs.{Made as Key}
use Rattle.cir_meaning.specs.RunStatements.{run_call}
use Rattle.cir_steps.specs.Step.{Step}
use Rattle.cir_emit.proofs.Leaves.{AllSound}
use Rattle.wit_lower.specs.Procedures.{IsTable}
use Rattle.wit_circuit.specs.Coded.{AreCodeOfSteps}
use Rattle.wit_circuit.specs.Made.{AreMadeOf}
use Rattle.wit_circuit.proofs.Lowered.{made_of_lowered}

pub all_made : (p : Program) (keys : List Key) (procs : List Proc) → IsTable p keys procs
    → (steps : List Step) (code : List CodeStep) → AllSound steps → AreCodeOfSteps keys steps code
    → AreMadeOf (run_call p most_open) procs steps code
all_made p keys procs table [] [] sound are = tt
all_made p keys procs table [] (m ∷ ms) sound are = absurd are
all_made p keys procs table (s ∷ ss) [] sound are = absurd are
all_made p keys procs table (s ∷ ss) (m ∷ ms) sound are =
    let c = are.0 in
    let fit = sound.0 c.then_keys c.sources c.are in (
      made_of_lowered p c.then_keys c.later procs s c.sources m fit.0 fit.1
          (subst (λ ks. IsTable p ks procs) c.front table) c.code c.reads c.writes,
      all_made p keys procs table ss ms sound.1 are.1,
    )
