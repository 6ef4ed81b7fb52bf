-- What a condition that isn't known leaves: its step and what is behind it; and variables that have
-- the values again that they had before.
use Rattle.std.specs.Prelude.{ℕ, List, [], ◌∷◌, Option, Some, None, slice_get, slice_set}
use Rattle.cir_ast.specs.declared.program.Spot.{Spot}
use Rattle.cir_ast.specs.declared.program.Meant.{Meant}
use Rattle.cir_ast.specs.Tree.{Statement}
use Rattle.cir_meaning.specs.Tried.{Where}
use Rattle.cir_meaning.specs.Arrays.{Datum}
use Rattle.cir_meaning.specs.Frame.{Context, State}
use Rattle.cir_meaning.specs.Places.{numbers_from}
use Rattle.cir_meaning.specs.Steps.{undecided_cost}
use Rattle.cir_meaning.specs.Unknown.{outer_assigned}
use Rattle.cir_steps.specs.Emission.{Emission, known_in, step_of}
use Rattle.cir_steps.specs.Making.{count_of, wanted_of, with_variables}
use Rattle.cir_steps.specs.Step.{Deciding, Step}

abbrev pub put_one : Option Datum → ℕ → List Datum → List Datum
put_one None n ds = ds
put_one (Some d) n ds = slice_set ds n d

-- variables of these numbers, where they stood before
abbrev pub put_back : List ℕ → (before now : List Datum) → List Datum
put_back [] before ds = ds
put_back (n ∷ ns) before ds = put_back ns before (put_one (slice_get before n) n ds)

abbrev pub left_behind : Statement Spot Meant → State → Emission → Emission
left_behind a s x = with_variables (wanted_of (outer_assigned a) (known_in x)) s x

abbrev pub left_step : Context → Where → Statement Spot Meant → State → Emission → Step
left_step k w a s x =
    step_of k w s (undecided_cost k w a (known_in x) s)
    (Deciding a (wanted_of (outer_assigned a) (known_in x)))
    (numbers_from x.next (count_of (wanted_of (outer_assigned a) (known_in x)))) None x
