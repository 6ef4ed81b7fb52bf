-- The matrix: its vectors, its rows, and the places of values in it.
use Rattle.std.specs.Prelude.{ℕ, ◌+◌, ◌-◌, ◌*◌, List, ◌++◌, length, map, replicate, take, drop}
use Rattle.std.specs.Prelude.{slice_index}
use Rattle.gold_field.specs.Form.{value_at}
use Rattle.iden_files.specs.File.{File}
use Rattle.lig_layout.specs.declared.side.Side.TheVariants.{A, B, C}
use Rattle.lig_layout.specs.Sides.{form_of}
use Rattle.lig_layout.specs.declared.params.Params.{Params}
use Rattle.lig_layout.specs.declared.matrix.Vectors.{Vectors}

-- the values of the wires, and those of the three sides of the constraints
abbrev pub vectors_of : File → List ℕ → Vectors
vectors_of f w = record {
  w = w;
  x = map (λ k. value_at (slice_index w) (form_of A k)) f.constraints;
  y = map (λ k. value_at (slice_index w) (form_of B k)) f.constraints;
  z = map (λ k. value_at (slice_index w) (form_of C k)) f.constraints;
}

-- n values: these, and then zeros
abbrev pub padded : ℕ → List ℕ → List ℕ
padded n values = values ++ replicate (n - length values) 0

-- the rows of the matrix one after another
abbrev pub message : Params → Vectors → List ℕ
message p v =
    let wires = p.wire_rows * p.l in
    let side = p.constraint_rows * p.l in
    padded wires v.w ++ (padded side v.x ++ (padded side v.y ++ padded side v.z))

-- row k of the matrix whose rows stand one after another
abbrev pub row_at : Params → List ℕ → ℕ → List ℕ
row_at p values k = take p.l (drop (k * p.l) values)

-- where the values of the sides begin
abbrev pub x_start : Params → ℕ
x_start p = p.wire_rows * p.l

abbrev pub y_start : Params → ℕ
y_start p = (p.wire_rows + p.constraint_rows) * p.l

abbrev pub z_start : Params → ℕ
z_start p = (p.wire_rows + 2 * p.constraint_rows) * p.l
