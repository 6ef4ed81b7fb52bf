-- What steps read stands behind what writes it.
use Rattle.std.specs.Prelude.{ℕ, ◌≤◌, List, [], ◌∷◌, ◌++◌, ⊤}
use Rattle.cir_steps.specs.Step.{Step}
use Rattle.cir_steps.specs.Circuit.{Circuit}
use Rattle.cir_steps.specs.Written.{times}

-- each cell that a step reads is one of some cells, or is written by an earlier step
abbrev pub AreBehind : (before : List ℕ) → List Step → Type 0
AreBehind before [] = ⊤
AreBehind before (step ∷ steps) =
    ((c : ℕ) → 1 ≤ times c step.reads → 1 ≤ times c before)
    × AreBehind (before ++ step.targets) steps

-- each cell that a step reads is a start cell, or is written by an earlier step
abbrev pub EachReadBehind : Circuit → Type 0
EachReadBehind b = AreBehind b.starts b.steps
