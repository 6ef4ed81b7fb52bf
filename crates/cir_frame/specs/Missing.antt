-- How many elements of the inputs aren't written.
use Rattle.std.specs.Prelude.{ℕ, ◌+◌, not, if◌then◌else◌, List, [], ◌∷◌, count_by, Option, Some}
use Rattle.std.specs.Prelude.{None}
use Rattle.cir_frame.specs.declared.signal.SignalEntry.{SignalEntry}
use Rattle.cir_meaning.specs.Frame.{is_input}

abbrev pub missing_of : SignalEntry → ℕ
missing_of e = if is_input e.direction then count_by not e.written.items else 0

abbrev pub missing_in : List (Option SignalEntry) → ℕ
missing_in [] = 0
missing_in (None ∷ rest) = missing_in rest
missing_in (Some e ∷ rest) = missing_of e + missing_in rest
