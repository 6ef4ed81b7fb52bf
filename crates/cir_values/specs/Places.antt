-- Places of an array's elements in row order.
pub use Rattle.cir_meaning.specs.Places.{elements}
use Rattle.std.specs.Prelude.{ℕ, ◌+◌, ◌*◌, ◌<◌, if◌then◌else◌, nat_lt, List, [], ◌∷◌, Option, Some}
use Rattle.std.specs.Prelude.{None}

abbrev pub counted_on : ℕ → Option ℕ → Option ℕ
counted_on n None = None
counted_on n (Some m) = Some (n + m)

-- an index counts whole rows; there is none past a dimension, or with more or fewer indices
abbrev pub place_of : List ℕ → List ℕ → Option ℕ
place_of [] [] = Some 0
place_of [] (i ∷ is) = None
place_of (d ∷ ds) [] = None
place_of (d ∷ ds) (i ∷ is) =
    if nat_lt i d then counted_on (i * elements ds) (place_of ds is) else None

-- each index is below its dimension
abbrev pub IsInside : List ℕ → List ℕ → Type 0
IsInside [] [] = Unit {0}
IsInside [] (i ∷ is) = ⊥
IsInside (d ∷ ds) [] = ⊥
IsInside (d ∷ ds) (i ∷ is) = (i < d) × IsInside ds is
