-- What can be named behind a statement.
use Rattle.std.specs.Prelude.{◌≡◌, ℕ, ◌+◌, List, ◌∷◌, length, take}
use Rattle.wit_lower.specs.Homes as L
use Rattle.wit_sourced.specs.declared.homes.Scope.{Scope}
use Rattle.wit_sourced.specs.Shown.{scope_of}

-- the scope behind a statement begins with that before it
pub record IsBehind (before behind : Scope) (shown : L.Scope) : Type 0 where
  pub shows : scope_of behind ≡ shown
  pub begins : take (length before.homes.items) behind.homes.items ≡ before.homes.items

-- nothing more can be named
pub record IsLeft (before behind : Scope) : Type 0 where
  pub homes : behind.homes.items ≡ before.homes.items
  pub top : behind.top ≡ before.top

-- a new home is the next slots
abbrev pub with_home : L.Name → List ℕ → L.Scope → L.Scope
with_home name dims s = record {
  homes = record { name = name; home = record { base = s.top; dims = dims } } ∷ s.homes;
  top = s.top + L.slots_of dims;
}
