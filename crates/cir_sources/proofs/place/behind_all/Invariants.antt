use Rattle.std.proofs.Common.{◌≡◌, ◌+◌, ◌≤◌, drop}
use Rattle.std.specs.Prelude.{fold}
use Rattle.cir_ast.specs.Spot.{behind}
use Rattle.cir_sources.proofs.place.behind_all.Given as goal

-- the bytes that are left lead to the place
abbrev pub invariant-loop-byte : goal.invariant-loop-byte
invariant-loop-byte l =
    (fold behind l.spot (drop l.byte-index l.bytes) ≡ fold behind l.fn.from l.bytes)
    × (l.spot.line ≤ l.fn.from.line + l.byte-index)
    × (l.spot.column ≤ l.fn.from.column + l.byte-index)
