-- How often cells are written.
use Rattle.std.specs.Prelude.{ℕ, ◌+◌, if◌then◌else◌, nat_eq, nat_lt, List, [], ◌∷◌, ◌++◌, ◌≡◌}
use Rattle.cir_steps.specs.Step.{Step}
use Rattle.cir_steps.specs.Circuit.{Circuit}

-- how often a number stands in a list
abbrev pub times : ℕ → List ℕ → ℕ
times n [] = 0
times n (m ∷ ms) = (if nat_eq m n then 1 else 0) + times n ms

abbrev pub targets_of : List Step → List ℕ
targets_of [] = []
targets_of (step ∷ steps) = step.targets ++ targets_of steps

-- each cell is a start cell or is written by one step, once
abbrev pub EachCellOnce : Circuit → Type 0
EachCellOnce b =
    (c : ℕ) → times c (b.starts ++ targets_of b.steps) ≡ (if nat_lt c b.cells then 1 else 0)
