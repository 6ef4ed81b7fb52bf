-- Adding to the values of a row, modulo the field's order.
use Rattle.std.specs.Prelude.{◌≡◌, ℕ, ◌+◌, ◌%◌, ◌<◌, List, length, slice_index}
use Rattle.gold_field.specs.declared.gold.TheConstants.{P}

-- each value is a number of the field
abbrev pub IsReduced : List ℕ → Type 0
IsReduced row = (place : ℕ) → slice_index row place < P

-- the new row is the old one with f added, place by place
pub record Adds (f : ℕ → ℕ) (old new : List ℕ) : Type 0 where
  pub count : length new ≡ length old
  pub sums : (place : ℕ) → place < length old
      → slice_index new place ≡ (slice_index old place + f place) % P
