-- Faults, and the first of them.
use Rattle.std.specs.Prelude.{ℕ, List, [], ◌∷◌, Bool, true, false, if◌then◌else◌, Option, Some}
use Rattle.std.specs.Prelude.{None, option_map}
use Rattle.std.specs.Str.{bytes_eq}
use Rattle.cir_ast.specs.declared.program.Spot.{Spot}
use Rattle.cir_ast.specs.declared.refusal.Kind.{Kind}
use Rattle.cir_checks.specs.declared.stop.Fault.{Fault}
use Rattle.cir_checks.specs.declared.stop.Found.{Found}

-- the first fault of two parts, in their order
infixr 55 ◌⨾◌
abbrev pub ◌⨾◌ : {A : Type 0} → Option A → Option A → Option A
None ⨾ later = later
Some x ⨾ later = Some x

-- and of the parts in a list
abbrev pub first_in : {A F : Type 0} → (A → Option F) → List A → Option F
first_in fault [] = None
first_in fault (x ∷ xs) = fault x ⨾ first_in fault xs

-- a fault where this doesn't hold
abbrev pub unless : Bool → Kind → Option Kind
unless true kind = None
unless false kind = Some kind

-- at the place of the statement or the item that holds it
abbrev pub at : Spot → Option Kind → Option Fault
at spot = option_map (λ kind. record { kind = kind; spot = spot })

-- in the file of this place in the program's list
abbrev pub in_file : ℕ → Option Fault → Option Found
in_file file = option_map (λ fault. record { file = file; fault = fault })

-- a set of names, by what is in it
abbrev pub Names : Type 0
Names = List ℕ → Bool

abbrev pub no_names : Names
no_names name = false

abbrev pub and_name : Names → List ℕ → Names
and_name names new name = if bytes_eq new name then true else names name

abbrev pub and_names : Names → List (List ℕ) → Names
and_names names [] = names
and_names names (new ∷ more) = and_names (and_name names new) more
