-- The values of a circuit's inputs, from the bytes of a JSON object; or the first refusal.
use Rattle.std.specs.Prelude.{◌==◌, ℕ, ◌+◌, List, [], ◌∷◌, ◌++◌, length, Bool, ◌&&◌, is_none}
use Rattle.std.specs.Prelude.{Option, Some, None, option_and_then, ok_or, Result, Ok, Err}
use Rattle.std.specs.Prelude.{if◌then◌else◌, nat_lt, bytes_eq}
use Rattle.std.specs.List.{list_any}
use Rattle.std.specs.Option.{option_or}
use Rattle.binary_format.specs.Reading.{◌>>=◌}
use Rattle.cir_values.specs.declared.signals.InputShape.{InputShape}
use Rattle.serde_json.specs.Data.{Data, Members, no_members, member}
use Rattle.serde_json.specs.Find.{as_object, get_member}
use Rattle.wit_input.specs.Document.{json_of}
use Rattle.wit_input.specs.Numbers.{number_of}
use Rattle.wit_input.specs.Values.{values_at}
use Rattle.wit_input.specs.declared.fault.InputFault.{InputFault}
use Rattle.wit_input.specs.declared.fault.InputFault.TheVariants.{NotJson, Missing, UnknownSignal}
use Rattle.wit_input.specs.declared.fault.InputFault.TheVariants.{WrongCount, BadNumber}

-- the first fault of the elements of a list, each by its place, from this place on
abbrev pub first_fault : {A : Type 0} → (ℕ → A → Option InputFault) → ℕ → List A
    → Option InputFault
first_fault fault place [] = None
first_fault fault place (x ∷ xs) = option_or (fault place x) (first_fault fault (place + 1) xs)

-- nothing where there is no fault
abbrev pub unless : Option InputFault → Result (Unit {0}) InputFault
unless None = Ok tt
unless (Some fault) = Err fault

-- an input that has elements has a key
abbrev pub missing : Members → ℕ → InputShape → Option InputFault
missing members place input =
    if nat_lt 0 input.count && is_none (get_member input.name members) then Some (Missing place)
    else None

-- the key is the name of an input
abbrev pub is_input : List InputShape → List ℕ → Bool
is_input inputs key = list_any (λ (input : InputShape). bytes_eq input.name key) inputs

-- the least key that isn't: an object's members stand in the order of their keys' bytes
abbrev pub unknown : (List ℕ → Bool) → Members → Option InputFault
unknown known no_members = None
unknown known (member key d members) =
    if known key then unknown known members else Some (UnknownSignal key)

-- the values under an input's name
abbrev pub values_for : Members → InputShape → List Data
values_for members input = values_at (get_member input.name members)

-- an input has as many values as elements
abbrev pub wrong_count : Members → ℕ → InputShape → Option InputFault
wrong_count members place input =
    let has = length (values_for members input) in
    if has == input.count then None else Some (WrongCount place has input.count)

-- the numbers of values of an input, from this place on, or the first that is none
abbrev pub numbers_from : ℕ → ℕ → List Data → Result (List ℕ) InputFault
numbers_from input place [] = Ok []
numbers_from input place (value ∷ values) = do
  first ← ok_or (number_of value) (BadNumber input place)
  others ← numbers_from input (place + 1) values
  Ok (first ∷ others)

-- the numbers of all inputs, from this one on
abbrev pub all_numbers : Members → ℕ → List InputShape → Result (List ℕ) InputFault
all_numbers ms place [] = Ok []
all_numbers ms place (input ∷ inputs) = do
  first ← numbers_from place 0 (values_for ms input)
  others ← all_numbers ms (place + 1) inputs
  Ok (first ++ others)

-- 1, and the inputs' numbers, in the order of the inputs
abbrev pub given : List InputShape → Members → Result (List ℕ) InputFault
given inputs members = do
  present ← unless (first_fault (missing members) 0 inputs)
  known ← unless (unknown (is_input inputs) members)
  counted ← unless (first_fault (wrong_count members) 0 inputs)
  numbers ← all_numbers members 0 inputs
  Ok (1 ∷ numbers)

unfoldable pub input_of : List ℕ → List InputShape → Result (List ℕ) InputFault
input_of bytes inputs = do
  members ← ok_or (option_and_then as_object (json_of bytes)) NotJson
  given inputs members
