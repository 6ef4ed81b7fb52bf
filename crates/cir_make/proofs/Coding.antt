-- Steps that are made have their places and lines, and their code.
use Rattle.std.proofs.Common.{List, [], ◌∷◌}
use Rattle.cir_meaning.specs.Costs.{Made as Key}
use Rattle.cir_steps.specs.Step.{Step}
use Rattle.wit_circuit.specs.Coded.{AreCodeOfSteps}
use Rattle.wit_circuit.specs.Whole.{AreStepsOf, codes_of}
use Rattle.wit_circuit.specs.declared.columns.MadeStep.{MadeStep}
use Rattle.cir_make.specs.Cells.{AreMade}

pub made_steps : (keys : List Key) (ss : List Step) (ms : List MadeStep) → AreMade keys ss ms
    → AreStepsOf ss ms
made_steps keys [] [] h = tt
made_steps keys [] (m ∷ ms) h = absurd h
made_steps keys (s ∷ ss) [] h = absurd h
made_steps keys (s ∷ ss) (m ∷ ms) h = (h.0.is, made_steps keys ss ms h.1)

pub made_code : (keys : List Key) (ss : List Step) (ms : List MadeStep) → AreMade keys ss ms
    → AreCodeOfSteps keys ss (codes_of ms)
made_code keys [] [] h = tt
made_code keys [] (m ∷ ms) h = absurd h
made_code keys (s ∷ ss) [] h = absurd h
made_code keys (s ∷ ss) (m ∷ ms) h = (h.0.code, made_code keys ss ms h.1)
