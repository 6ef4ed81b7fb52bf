-- How many elements of an array are made.
use Rattle.std.specs.Prelude.{ℕ, if◌then◌else◌, List}
use Rattle.cir_meaning.specs.Places.{elements}
use Rattle.cir_meaning.specs.Limits.{is_too_large}

-- none of an array that is too large
abbrev pub made_count : List ℕ → ℕ
made_count dims = if is_too_large dims then 0 else elements dims
