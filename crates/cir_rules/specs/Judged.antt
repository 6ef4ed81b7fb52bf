-- What the code's verdict stands for.
use Rattle.std.specs.Prelude.{◌≡◌, ℕ, Bool, not, if◌then◌else◌, nat_lt, List, map, Option, Some}
use Rattle.std.specs.Prelude.{None, is_none}
use Rattle.std.specs.List.{list_any}
use Rattle.cir_ast.specs.Program.{Program}
use Rattle.cir_meaning.specs.Costs as C
use Rattle.cir_meaning.specs.Functions as F
use Rattle.cir_meaning.specs.Limits.{standing}
use Rattle.cir_meaning.specs.Reached.{body_of, is_misplaced}
use Rattle.cir_meaning.specs.Texts.{list_of, all_wanted, all_variables, calls_in, literal_number}
use Rattle.cir_rules.specs.declared.verdict.Verdict.{Verdict}
use Rattle.cir_rules.specs.declared.verdict.Verdict.TheVariants.{Faulty, Fine}

-- the first rule that is broken; or, where none is, the first number of elements that is too many,
-- or 0
abbrev pub Judges : Program → List C.Made → Verdict → Type 0
Judges p made (Faulty kind) = F.function_fault p made ≡ Some kind
Judges p made (Fine elements) =
    (F.function_fault p made ≡ None) × (elements ≡ standing (F.function_elements p made))

-- what is told of one function
abbrev pub function_calls : Program → ℕ → List ℕ
function_calls p f = map (λ c. c.function) (calls_in (body_of p f))

abbrev pub dimension_runs : Program → ℕ → Bool
dimension_runs p f =
    list_any (λ v. list_any (λ e. is_none (literal_number e)) (list_of v.dimensions))
    (all_variables (body_of p f))

abbrev pub misplaces : Program → ℕ → Bool
misplaces p f = list_any (λ x. is_misplaced x.want x.expr) (all_wanted (body_of p f))

abbrev pub misfits : Program → C.Made → Bool
misfits p m = not (F.body_fits (F.call_dims p m) (body_of p m.function))

-- its elements, where they are too many, or 0
abbrev pub too_many : ℕ → ℕ
too_many n = if nat_lt 65536 n then n else 0

abbrev pub too_large : Program → Option C.Made → ℕ
too_large p None = 0
too_large p (Some m) = too_many (F.elements_of p m)
