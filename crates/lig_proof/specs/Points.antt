-- The points at which rows are read and encoded.
use Rattle.std.specs.Prelude.{ℕ, ◌-◌, ◌*◌, ◌%◌, ◌^◌}
use Rattle.gold_field.specs.declared.gold.TheConstants.{P}
use Rattle.gold_ntt.specs.Transform.{root_of}
use Rattle.lig_layout.specs.declared.params.Params.{Params}

-- the binary logarithm of the width, of which the encoded matrix has eight times as many columns
abbrev pub width_log : Params → ℕ
width_log p = p.depth - 3

-- where a row's polynomial has value j of the row
abbrev pub message_point : Params → ℕ → ℕ
message_point p j = root_of (width_log p) ^ j % P

-- where the polynomials have the values of column i
abbrev pub code_point : Params → ℕ → ℕ
code_point p i = 7 * root_of p.depth ^ i % P
