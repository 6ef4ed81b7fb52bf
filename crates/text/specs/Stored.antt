-- What a text is, by the form in which it is kept.
use Rattle.std.specs.Prelude.{ℕ, ◌≤◌, List, take}
use Rattle.text.specs.declared.text.Stored.{Stored}
use Rattle.text.specs.declared.text.Stored.TheVariants.{Few, Many}

abbrev pub bytes_of : Stored → List ℕ
bytes_of (Few len bytes) = take len bytes
bytes_of (Many bytes) = bytes.value.items

-- the value has room for 22 bytes
abbrev pub IsSound : Stored → Type 0
IsSound (Few len bytes) = len ≤ 22
IsSound (Many bytes) = Unit {0}
