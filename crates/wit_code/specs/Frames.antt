-- The frames of the open calls, and how they lie on one stack of numbers.
use Rattle.std.specs.Prelude.{◌≡◌, ℕ, ◌+◌, ◌≤◌, Bool, false, List, [], ◌∷◌}
use Rattle.std.specs.Prelude.{Option, Some, None, take}
use Rattle.std.specs.Prelude.{drop, length}
use Rattle.wit_code.specs.declared.frames.Resume.{Resume}
use Rattle.wit_code.specs.declared.frames.Caller.{Caller}
use Rattle.wit_code.specs.Room.{AreZeros, cleared}

-- a call that waits: how it goes on, and its frame
pub record Open : Type 0 where
  pub resume : Resume
  pub slots : List ℕ

-- the running frame, and the calls that wait, the innermost first
pub record Frames : Type 0 where
  pub slots : List ℕ
  pub open_calls : List Open

-- how many numbers the callers' frames take
abbrev pub width_of : List Caller → ℕ
width_of [] = 0
width_of (c ∷ cs) = c.width + width_of cs

abbrev pub open_of : Caller → List ℕ → Open
open_of c slots = record { resume = c.resume; slots = slots }

-- the callers' frames stand one after another, the outermost first
abbrev pub opened : List Open → List Caller → List ℕ → List Open
opened inner [] numbers = inner
opened inner (c ∷ cs) numbers =
    opened (open_of c (take c.width numbers) ∷ inner) cs (drop c.width numbers)

-- the numbers up to the end of the step's own frame, which is the outermost
abbrev pub own_numbers : ℕ → List Caller → List ℕ → List ℕ
own_numbers first [] numbers = numbers
own_numbers first (c ∷ cs) numbers = take (first + c.width) numbers

-- the step's own frame begins at `first` and the running one at `base`; below them all is 0, and
-- in the step's own frame all but the places that are noted, so long as not every place counts as
-- noted
pub record IsLaid (first base : ℕ) (is_full : Bool) (callers : List Caller)
    (places numbers : List ℕ) : Type 0 where
  pub base_is : base ≡ first + width_of callers
  pub within : base ≤ length numbers
  pub below : AreZeros (take first numbers)
  pub noted : is_full ≡ false → AreZeros (cleared places (own_numbers first callers numbers))

-- the innermost call that waits goes on, if there is one
abbrev pub Closes : Frames → Option Resume → Frames → Type 0
Closes old None new = (old.open_calls ≡ []) × (new ≡ old)
Closes old (Some r) new = old.open_calls ≡ record { resume = r; slots = new.slots } ∷ new.open_calls
