-- Where the signals of components stand, by their numbers.
use Rattle.std.specs.Prelude.{◌≡◌, ℕ, ◌+◌, ◌-◌, ◌<◌, true, if◌then◌else◌, nat_le, nat_lt, ◌&&◌}
use Rattle.std.specs.Prelude.{List, [], ◌∷◌, length, Option, Some, None, is_some}
use Rattle.std.specs.List.{AllByRecursion}
use Rattle.cir_meaning.specs.Frame.{SignalEntry, entry_at}
use Rattle.cir_meaning.specs.Run.{Table}
use Rattle.cir_meaning.specs.RunBodies.{table_wire}
use Rattle.cir_make.specs.declared.cells.Homes.{Homes}

-- the cell of the element of this number: the first row decides that has it
abbrev pub home_in : List Homes → (number : ℕ) → Option ℕ
home_in [] j = None
home_in (h ∷ hs) j =
    if nat_le h.number j && nat_lt j (h.number + h.count) then Some (h.cell + (j - h.number))
    else home_in hs j

-- each element of each signal has a cell
abbrev pub HasCells : Table → Type 0
HasCells t =
    (n : ℕ) (e : SignalEntry) (k : ℕ) → entry_at t.signals n ≡ Some e → k < length e.written
    → is_some (t.wires n k) ≡ true

-- where all have cells, these are they
abbrev pub AreHomes : List Table → List Homes → Type 0
AreHomes ts hs = AllByRecursion HasCells ts → (j : ℕ) → table_wire ts j ≡ home_in hs j
