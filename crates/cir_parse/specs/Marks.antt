-- Places of tokens by how many are left.
use Rattle.std.specs.Prelude.{◌-◌, nat_le, if◌then◌else◌, List, length, slice_get, unwrap_or}
use Rattle.cir_ast.specs.declared.program.Spot.{Spot}
use Rattle.cir_ast.specs.Spot.{start}
use Rattle.cir_expression.specs.Front.{Tokens}

-- the place of the first of these tokens, which are the last of as many as there are places; the
-- start where there is none
abbrev pub spot_before : List Spot → Tokens → Spot
spot_before spots rest =
    if nat_le (length rest) (length spots)
    then unwrap_or (slice_get spots (length spots - length rest)) start else start
