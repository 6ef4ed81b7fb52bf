-- Lines and columns of a source, and refusals there.
use Rattle.std.specs.Prelude.{ℕ, ◌+◌, ◌==◌, if◌then◌else◌, List, fold, take, codes}
use Rattle.cir_ast.specs.declared.program.Spot.{Spot}
use Rattle.cir_ast.specs.declared.refusal.Kind.{Kind}
use Rattle.cir_ast.specs.declared.refusal.Refusal.{Refusal}

abbrev pub start : Spot
start = record { line = 1; column = 1 }

-- the place behind a byte: a line feed begins a line
abbrev pub behind : Spot → ℕ → Spot
behind spot byte = if byte == 10 then record { line = spot.line + 1; column = 1 }
    else record { line = spot.line; column = spot.column + 1 }

-- the place of the byte at this offset
abbrev pub spot_at : List ℕ → ℕ → Spot
spot_at bytes offset = fold behind start (take offset bytes)

-- a refusal at a place of the file of this name, before any instance is made
abbrev pub refusal_at : List ℕ → Kind → Spot → Refusal
refusal_at name kind spot =
    record {
      kind = kind;
      place = record { file = name; line = spot.line; column = spot.column; path = codes "-" };
    }
