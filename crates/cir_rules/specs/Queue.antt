-- What is reached from calls, one after the other.
use Rattle.std.specs.Prelude.{ℕ, Bool, false, List, [], ◌++◌, Option, Some, None, slice_get}
use Rattle.cir_meaning.specs.Reached.{new_ones}

-- what is known, and what is new
abbrev pub with_new : {A : Type 0} → (A → A → Bool) → List A → List A → List A
with_new same known next = known ++ new_ones same known next

abbrev pub calls_of : {A : Type 0} → (A → List A) → Option A → List A
calls_of calls None = []
calls_of calls (Some a) = calls a

-- with the calls of the one at this place
abbrev pub visited : {A : Type 0} → (A → A → Bool) → (A → List A) → ℕ → List A → List A
visited same calls at known = with_new same known (calls_of calls (slice_get known at))

-- a test of the one at a place
abbrev pub told : {A : Type 0} → (A → Bool) → Option A → Bool
told test None = false
told test (Some a) = test a
