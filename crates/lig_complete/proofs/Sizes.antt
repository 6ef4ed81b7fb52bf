-- The sizes for a file within the limits, and what of its values fits into them.
use Rattle.std.proofs.Common.{◌≡◌, ℕ, ◌+◌, ◌*◌, ◌^◌, ◌<◌, ◌≤◌, length, refl}
use Rattle.std.proofs.Common.{arith}
use Rattle.std.specs.Int.{div_ceil}
use Rattle.std.proofs.Math.Nat.{lt_of_mul-lt-mul_right, pow-le-pow_right}
use Rattle.std.proofs.lemmas.Grind.{div_ceil_times}
use Rattle.std.proofs.lemmas.Nat.{pow-add, pow_pos}
use Rattle.iden_files.specs.File.{File, InLimits}
use Rattle.lig_layout.specs.declared.params.Params.{Params}
use Rattle.lig_layout.specs.declared.matrix.Vectors.{Vectors}
use Rattle.lig_layout.specs.Sizes.{IsParams, params_of}
use Rattle.lig_layout.specs.Solutions.{AreVectors}
use Rattle.lig_layout.specs.Width.{width_exponent}
use Rattle.lig_layout.proofs.Widths.{exponent_small, least_width}
use Rattle.lig_layout.proofs.Wired.{ceil_room}

few_rows : (n l : ℕ) → 0 < l → n ≤ l * l → div_ceil n l ≤ l
few_rows n l pos fits =
    let bound = (div_ceil_times n l pos).1 in
    let square : div_ceil n l * l < (l + 1) * l = omega arith in
    let less : div_ceil n l < l + 1 = lt_of_mul-lt-mul_right l square in
    omega arith

pub sizes_fit : (f : File) → InLimits f → IsParams (params_of f)
sizes_fit f limits =
    let q = length f.constraints in
    let n = f.wires + 3 * q in
    let e = width_exponent n in
    let wires = limits.wires in
    let constraints = limits.constraints in
    let width = least_width n (omega arith) in
    let low = width.low in
    let enough = width.enough in
    let small = exponent_small n in
    let top : 2 ^ e ≤ 2 ^ 11 = pow-le-pow_right (omega arith) small in
    let eight : 2 ^ (e + 3) ≡ 2 ^ e * 8 = pow-add 2 e 3 in
    record {
      least = low;
      greatest = omega arith;
      depth = omega arith;
      wire_rows = few_rows f.wires (2 ^ e) (pow_pos e) (omega arith);
      constraint_rows = few_rows q (2 ^ e) (pow_pos e) (omega arith);
      rows = refl;
    }

-- values that fit into their rows
pub record Fits (p : Params) (v : Vectors) : Type 0 where
  pub rows : p.rows ≡ p.wire_rows + 3 * p.constraint_rows
  pub w : length v.w ≤ p.wire_rows * p.l
  pub x : length v.x ≤ p.constraint_rows * p.l
  pub y : length v.y ≤ p.constraint_rows * p.l
  pub z : length v.z ≤ p.constraint_rows * p.l

pub values_fit : (f : File) (v : Vectors) → AreVectors f v → Fits (params_of f) v
values_fit f v are =
    let q = length f.constraints in
    let e = width_exponent (f.wires + 3 * q) in
    let wires = ceil_room f.wires (2 ^ e) (pow_pos e) in
    let sides = ceil_room q (2 ^ e) (pow_pos e) in
    let w = are.w.count in
    let x = are.x.count in
    let y = are.y.count in
    let z = are.z.count in
    record {
      rows = refl;
      w = omega arith;
      x = omega arith;
      y = omega arith;
      z = omega arith;
    }
