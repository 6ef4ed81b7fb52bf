-- What calls did to the count of faults of a store or a sink.
use Rattle.std.specs.Prelude.{◌≡◌, ◌≤◌, ℕ}

-- the count of faults never falls, and stands still where no call fails
pub record Counting (before after : ℕ) (quiet still_quiet : Type 0) : Type 0 where
  pub later : before ≤ after
  pub steady : quiet → still_quiet × (after ≡ before)
