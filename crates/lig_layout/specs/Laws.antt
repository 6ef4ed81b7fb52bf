-- What the linear system and its combination mean.
use Rattle.std.specs.Prelude.{◌≡◌, ℕ, ◌+◌, ◌*◌, ◌%◌, ◌<◌, List, [], ◌∷◌, length, map, take, drop}
use Rattle.std.specs.Prelude.{slice_index}
use Rattle.std.specs.List.{AllByRecursion}
use Rattle.gold_field.specs.declared.gold.TheConstants.{P}
use Rattle.gold_field.specs.declared.form.Term.{Term}
use Rattle.gold_field.specs.Form.{SignalsBelow, value_at}
use Rattle.iden_files.specs.File.{File, IsFile, InLimits}
use Rattle.lig_layout.specs.Sizes.{params_of}
use Rattle.lig_layout.specs.Layout.{vectors_of, message}
use Rattle.lig_layout.specs.System.{combined, left_sides, public_count, right_sides}

-- the sum of the products of two lists, place by place
abbrev pub inner_product : List ℕ → List ℕ → ℕ
inner_product [] ys = 0
inner_product (x ∷ xs) [] = 0
inner_product (x ∷ xs) (y ∷ ys) = x * y + inner_product xs ys

-- the sum, over the left sides, of the number with that index times the left side's value
abbrev pub combined_values : List ℕ → List ℕ → List (List Term) → ℕ
combined_values values [] forms = 0
combined_values values (n ∷ r) [] = 0
combined_values values (n ∷ r) (form ∷ forms) =
    n * value_at (slice_index values) form + combined_values values r forms

-- the row vector times the system, times values, is the row vector times the left sides' values
abbrev pub CombiningIsLinear : Type 0
CombiningIsLinear = (values r : List ℕ) (forms : List (List Term))
    → AllByRecursion (SignalsBelow (length values)) forms
    → inner_product (combined (length values) r forms) values % P
    ≡ combined_values values r forms % P

-- the public values among those of the wires
abbrev pub publics_of : File → List ℕ → List ℕ
publics_of f w = take (public_count f) (drop 1 w)

-- for values of the wires with 1 at wire 0, the vectors made of them solve the system
abbrev pub VectorsSolve : Type 0
VectorsSolve = (f : File) (w : List ℕ) → IsFile f → InLimits f → length w ≡ f.wires
    → ((i : ℕ) → slice_index w i < P) → slice_index w 0 ≡ 1
    → map (value_at (slice_index (message (params_of f) (vectors_of f w))))
    (left_sides (params_of f) f) ≡ right_sides f (publics_of f w)
