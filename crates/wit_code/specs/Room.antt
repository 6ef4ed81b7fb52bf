-- The numbers that one run hands on to the next: all are 0.
use Rattle.std.specs.Prelude.{◌≡◌, ℕ, List, [], ◌∷◌, length, replicate, slice_set}

abbrev pub AreZeros : List ℕ → Type 0
AreZeros numbers = numbers ≡ replicate (length numbers) 0

-- the numbers, with 0 at these places
abbrev pub cleared : List ℕ → List ℕ → List ℕ
cleared [] numbers = numbers
cleared (at ∷ places) numbers = cleared places (slice_set numbers at 0)
