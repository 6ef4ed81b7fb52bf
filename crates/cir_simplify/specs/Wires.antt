-- The signals that are kept, and constraints over their places.
use Rattle.std.specs.Prelude.{ℕ, zero, suc, Bool, true, false, ◌||◌, nat_le, List, [], ◌∷◌, ◌++◌}
use Rattle.std.specs.Prelude.{length, map, if◌then◌else◌}
use Rattle.std.specs.List.{list_any}
use Rattle.gold_field.specs.declared.form.Term.{Term}
use Rattle.gold_field.specs.declared.form.Constraint.{Constraint}
use Rattle.cir_simplify.specs.declared.types.Level.{Level}
use Rattle.cir_simplify.specs.declared.types.Level.TheVariants.{O0, O1, O2}
use Rattle.cir_simplify.specs.Shape.{names_in}

-- some constraint of the list names the signal
abbrev pub is_left : List Constraint → ℕ → Bool
is_left list signal = list_any (names_in signal) list

-- at O0 every signal is kept
abbrev pub keeps_all : Level → Bool
keeps_all O0 = true
keeps_all O1 = false
keeps_all O2 = false

-- else signal 0, main's inputs and outputs, and each signal that is left
abbrev pub is_kept : Level → ℕ → List Constraint → ℕ → Bool
is_kept level kept list signal = keeps_all level || nat_le signal kept || is_left list signal

-- the signals below n that are kept, in the order of their numbers
abbrev pub kept_below : (ℕ → Bool) → ℕ → List ℕ
kept_below keeps zero = []
kept_below keeps (suc n) = kept_below keeps n ++ (if keeps n then n ∷ [] else [])

-- the place of a signal among the kept ones
abbrev pub wire_of : (ℕ → Bool) → ℕ → ℕ
wire_of keeps signal = length (kept_below keeps signal)

abbrev pub renamed : (ℕ → ℕ) → Term → Term
renamed name t = record { signal = name t.signal; coef = t.coef }

abbrev pub renamed_in : (ℕ → ℕ) → Constraint → Constraint
renamed_in name k =
    record { a = map (renamed name) k.a; b = map (renamed name) k.b; c = map (renamed name) k.c }
