-- The least constraint that values don't satisfy.
use Rattle.std.specs.Prelude.{◌==◌, ℕ, ◌+◌, ◌*◌, ◌%◌, Bool, List, [], ◌∷◌, Option, Some, None}
use Rattle.std.specs.Prelude.{slice_index, if◌then◌else◌}
use Rattle.gold_field.specs.Form.{value_at}
use Rattle.gold_field.specs.declared.form.Constraint.{Constraint}
use Rattle.gold_field.specs.declared.gold.TheConstants.{P}

-- whether A * B - C = 0 at these values
abbrev pub is_satisfied : List ℕ → Constraint → Bool
is_satisfied w k =
    let s = slice_index w in
    (value_at s k.a * value_at s k.b) % P == value_at s k.c

-- the index of the first constraint that isn't satisfied, where the list's first has the index i
abbrev pub first_failing_from : ℕ → List ℕ → List Constraint → Option ℕ
first_failing_from i w [] = None
first_failing_from i w (k ∷ ks) =
    if is_satisfied w k then first_failing_from (i + 1) w ks else Some i
