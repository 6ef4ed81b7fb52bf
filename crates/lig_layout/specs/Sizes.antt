-- The sizes of the matrix.
use Rattle.std.specs.Prelude.{◌≡◌, ℕ, ◌+◌, ◌*◌, ◌^◌, ◌≤◌, length}
use Rattle.std.specs.Int.{IsPowerOfTwo, div_ceil}
use Rattle.iden_files.specs.File.{File}
use Rattle.lig_layout.specs.declared.params.Params.{Params}
use Rattle.lig_layout.specs.Width.{width_exponent}

-- the sizes whose width has the binary logarithm e
abbrev pub params_at : ℕ → ℕ → ℕ → Params
params_at e wires constraints =
    let l = 2 ^ e in
    let wire_rows = div_ceil wires l in
    let constraint_rows = div_ceil constraints l in
    record {
      l = l;
      depth = e + 3;
      wire_rows = wire_rows;
      constraint_rows = constraint_rows;
      rows = wire_rows + 3 * constraint_rows;
    }

-- the sizes for a file
abbrev pub params_of : File → Params
params_of f =
    let constraints = length f.constraints in
    params_at (width_exponent (f.wires + 3 * constraints)) f.wires constraints

-- what each sizes meet that a file within the limits has
pub record IsParams (p : Params) : Type 0 where
  pub least : 128 ≤ p.l
  pub greatest : p.l ≤ 2048
  pub depth : 2 ^ p.depth ≡ 8 * p.l
  pub wire_rows : p.wire_rows ≤ p.l
  pub constraint_rows : p.constraint_rows ≤ p.l
  pub rows : p.rows ≡ p.wire_rows + 3 * p.constraint_rows

-- the least power of two, from 128 on, whose square is n or more
pub record IsLeastWidth (n l : ℕ) : Type 0 where
  pub power : IsPowerOfTwo l
  pub low : 128 ≤ l
  pub enough : n ≤ l * l
  pub least : (m : ℕ) → IsPowerOfTwo m → 128 ≤ m → n ≤ m * m → l ≤ m
