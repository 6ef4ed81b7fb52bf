-- Where the elements of a step's arrays come from, and what of it is read.
use Rattle.std.specs.Prelude.{◌≡◌, ◌==◌, ℕ, nat_lt, if◌then◌else◌, Bool, true, List, ◌++◌}
use Rattle.std.specs.Prelude.{Option, Some, None, is_some}
use Rattle.std.specs.List.{AllByRecursion}
use Rattle.wit_lower.specs.Homes.{Name, Home, Homes, find, same_name, slots_of}
use Rattle.wit_lower.specs.Sources.{Input, Source, input_of}
use Rattle.wit_lower.specs.Steps.{IsInput}
use Rattle.cir_emit.specs.Reads.{Reading}
use Rattle.cir_emit.specs.Sourced.{IsAmong}
use Rattle.wit_sourced.specs.Shown.{sought_name}
use Rattle.wit_sourced.specs.declared.sources.Source.{Source as CodeSource}

-- what is offered: for elements of arrays their inputs
abbrev pub Offer : Type 0
Offer = Name → ℕ → Option Input

abbrev pub within : Option Home → (element : ℕ) → Option Input → Option Input
within None k offered = None
within (Some h) k offered = if nat_lt k (slots_of h.dims) then offered else None

-- the input of an element that an array with a home has
abbrev pub given : Homes → Offer → Name → (element : ℕ) → Option Input
given homes offer x k = within (find x homes) k (offer x k)

-- a source has the input that is given
abbrev pub IsGiven : Homes → Offer → Source → Type 0
IsGiven homes offer x = given homes offer x.name x.element ≡ Some x.input

-- a source of the code is an element's
abbrev pub IsSourceOf : Name → (element : ℕ) → CodeSource → Type 0
IsSourceOf x k s = (same_name x (sought_name s.name) ≡ true) × ((k == s.element) ≡ true)

-- and stands for one of these readings
pub record IsRead (homes : Homes) (offer : Offer) (reads : List Reading) (x : Source)
    : Type 0 where
  pub given : IsGiven homes offer x
  pub number : IsInput x.input
  pub among : IsAmong (record { name = x.name; element = x.element }) reads

-- a reading has the source that is given, or none where none is
abbrev pub IsTold : Homes → Offer → List Source → Reading → Type 0
IsTold homes offer list r = input_of r.name list r.element ≡ given homes offer r.name r.element

abbrev pub IsHad : Homes → Offer → Reading → Type 0
IsHad homes offer r = is_some (given homes offer r.name r.element) ≡ true

-- the sources so far, and whether each reading so far has one
pub record Seen : Type 0 where
  pub list : List Source
  pub whole : Bool

-- these readings are read too
pub record Adds (homes : Homes) (offer : Offer) (one two : Seen) (reads : List Reading)
    : Type 0 where
  pub added : List Source
  pub list : two.list ≡ one.list ++ added
  pub each : AllByRecursion (IsRead homes offer reads) added
  pub told : AllByRecursion (IsTold homes offer two.list) reads
  pub whole : two.whole ≡ true
      → (one.whole ≡ true) × AllByRecursion (IsHad homes offer) reads

abbrev pub Reads : Homes → Offer → (one two : Seen) → List Reading → Type 0
Reads homes offer one two reads =
    AllByRecursion (IsGiven homes offer) one.list → Adds homes offer one two reads
