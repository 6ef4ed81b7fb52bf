-- The faults in what is left of a list, and in the whole.
use Rattle.std.proofs.Common.{◌≡◌, ℕ, List, Option, drop}
use Rattle.std.specs.Prelude.{map}
use Rattle.cir_checks.specs.Faults.{first_in}

-- the first fault of what is left is the first of all
abbrev pub SameFault : {A B F : Type 0} → (B → Option F) → (A → B) → ℕ → List A → Type 0
SameFault fault bare i xs = first_in fault (map bare (drop i xs)) ≡ first_in fault (map bare xs)
