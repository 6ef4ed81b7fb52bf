-- Log lines whose numbers their steps write.
use Rattle.std.specs.Prelude.{ℕ, ◌<◌, List, [], ◌∷◌, Option, Some, None, ⊤}
use Rattle.cir_steps.specs.Step.{Step, LogPart, Text, Logged}
use Rattle.cir_steps.specs.Written.{times}

-- each number of a line stands in one of these cells
abbrev pub NumbersOf : List ℕ → List LogPart → Type 0
NumbersOf targets [] = ⊤
NumbersOf targets (Text text ∷ rest) = NumbersOf targets rest
NumbersOf targets (Logged c ∷ rest) = (0 < times c targets) × NumbersOf targets rest

abbrev pub LineOf : List ℕ → Option (List LogPart) → Type 0
LineOf targets None = ⊤
LineOf targets (Some parts) = NumbersOf targets parts

abbrev pub AreLinesOf : List Step → Type 0
AreLinesOf [] = ⊤
AreLinesOf (s ∷ ss) = LineOf s.targets s.line × AreLinesOf ss
