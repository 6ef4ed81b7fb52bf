-- What is said of what a store holds: it is so of all contents that agree with its answers.
use Rattle.std.specs.Prelude.{◌≡◌, ◌≤◌, ℕ}
use Rattle.out_io.specs.Contents.{Contents}

-- this is so of all contents that there may be
abbrev pub OfAll : (Contents → Type 0) → (Contents → Type 0) → Type 0
OfAll held P = (files : Contents) → held files → P files

-- whatever there may be after a call, it came so from something that there may have been before it
abbrev pub Becomes : {C : Type 0} → (C → C → Type 0) → (before now : C → Type 0)
    → Type 0
Becomes {C} P before now = (after : C) → now after
    → (first : C) × before first × P first after

-- the store was only read: what there may be now there may have been before; its count of faults,
-- and whether no call fails
pub record OnlyReads (before now : Contents → Type 0) (faults faults_after : ℕ)
    (quiet still_quiet : Type 0) : Type 0 where
  pub still : OfAll now before
  pub later : faults ≤ faults_after
  pub steady : quiet → still_quiet × (faults_after ≡ faults)
