-- When machine code is the code of a circuit's steps, each with its sources.
use Rattle.std.specs.Prelude.{◌≡◌, List, [], ◌∷◌, ◌++◌, ⊤}
use Rattle.wit_code.specs.declared.code.Step.{Step as CodeStep}
use Rattle.cir_meaning.specs.Costs.{Made as Key}
use Rattle.cir_steps.specs.Step.{Step}
use Rattle.wit_lower.specs.Sources.{Sources, cells_read}
use Rattle.wit_lower.specs.Tasks.{step_code, step_ground}
use Rattle.cir_emit.specs.Tasks.{step_task}
use Rattle.cir_emit.specs.Sourced.{AreSourcesOf}

-- its calls have keys of the table as it stood when the code was made
pub record IsCodeOfStep (keys : List Key) (s : Step) (m : CodeStep) : Type 0 where
  pub then_keys : List Key
  pub later : List Key
  pub front : keys ≡ then_keys ++ later
  pub sources : Sources
  pub are : AreSourcesOf then_keys s sources
  pub code : m.code ≡ step_code (step_ground then_keys sources (step_task s)) sources (step_task s)
  pub reads : m.reads ≡ cells_read sources.list
  pub writes : m.writes ≡ s.targets

abbrev pub AreCodeOfSteps : (keys : List Key) → List Step → List CodeStep → Type 0
AreCodeOfSteps keys [] [] = ⊤
AreCodeOfSteps keys [] (m ∷ ms) = ⊥
AreCodeOfSteps keys (s ∷ ss) [] = ⊥
AreCodeOfSteps keys (s ∷ ss) (m ∷ ms) = IsCodeOfStep keys s m × AreCodeOfSteps keys ss ms
