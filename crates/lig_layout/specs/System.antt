-- The linear system over the values of the matrix, row by row. An equation's left side is a list of
-- terms, each with a place in the matrix for its signal; its right side is a number.
use Rattle.std.specs.Prelude.{ℕ, zero, suc, ◌+◌, ◌-◌, ◌*◌, ◌%◌, ◌==◌, if◌then◌else◌, List, [], ◌∷◌}
use Rattle.std.specs.Prelude.{◌++◌, length, map, replicate, sum_by}
use Rattle.std.specs.List.{range_with_len}
use Rattle.gold_field.specs.declared.gold.TheConstants.{P}
use Rattle.gold_field.specs.declared.form.Term.{Term}
use Rattle.iden_files.specs.File.{File}
use Rattle.lig_layout.specs.declared.params.Params.{Params}
use Rattle.lig_layout.specs.declared.side.Side.TheVariants.{A, B, C}
use Rattle.lig_layout.specs.Sides.{forms}
use Rattle.lig_layout.specs.Layout.{x_start, y_start, z_start}

-- each form less the value at a place of its own, from this one on
abbrev pub differences : ℕ → List (List Term) → List (List Term)
differences place [] = []
differences place (form ∷ forms) =
    (form ++ record { signal = place; coef = P - 1 } ∷ []) ∷ differences (place + 1) forms

-- each of n wires alone, from this one on
abbrev pub wire_forms : ℕ → ℕ → List (List Term)
wire_forms wire zero = []
wire_forms wire (suc n) = (record { signal = wire; coef = 1 } ∷ []) ∷ wire_forms (wire + 1) n

-- how many public values a file has
abbrev pub public_count : File → ℕ
public_count f = f.outputs + f.public_inputs

-- wire 0 and the public wires
abbrev pub known_wires : File → ℕ
known_wires f = 1 + public_count f

-- the left sides: A w - x, B w - y and C w - z for each constraint, and then wire 0 and the public
-- wires
abbrev pub left_sides : Params → File → List (List Term)
left_sides p f =
    differences (x_start p) (forms A f.constraints)
    ++ (differences (y_start p) (forms B f.constraints)
    ++ (differences (z_start p) (forms C f.constraints)
    ++ wire_forms 0 (known_wires f)))

-- the right sides
abbrev pub right_sides : File → List ℕ → List ℕ
right_sides f publics = replicate (3 * length f.constraints) 0 ++ 1 ∷ publics

-- how many equations there are
abbrev pub equation_count : File → ℕ
equation_count f = 3 * length f.constraints + known_wires f

-- what a form says of a place: terms at one place add up
abbrev pub coefficient : ℕ → List Term → ℕ
coefficient place form = sum_by (λ t. if t.signal == place then t.coef else 0) form

-- the sum, over the left sides, of the number with that index times the coefficient of the place
abbrev pub combined_at : ℕ → List ℕ → List (List Term) → ℕ
combined_at place [] forms = 0
combined_at place (r ∷ rs) [] = 0
combined_at place (r ∷ rs) (form ∷ forms) = r * coefficient place form + combined_at place rs forms

-- the row vector r times the left sides, at each of so many places
abbrev pub combined : ℕ → List ℕ → List (List Term) → List ℕ
combined size r forms = map (λ place. combined_at place r forms % P) (range_with_len 0 size)
