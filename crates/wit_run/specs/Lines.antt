-- The log lines of a run, by what cells hold behind it.
use Rattle.std.specs.Prelude.{ℕ, ◌==◌, nat_lt, if◌then◌else◌, List, ◌∷◌, map, Some, unwrap_or}
use Rattle.std.specs.List.{filter}
use Rattle.std.specs.Fmt.{decimal}
use Rattle.wit_flow.specs.Cells.{Cells, held}
use Rattle.cir_meaning.specs.RunBodies.{log_line}
use Rattle.wit_circuit.specs.declared.code.LogLine.{LogLine}
use Rattle.wit_circuit.specs.declared.code.LogPart.{LogPart}
use Rattle.wit_circuit.specs.declared.code.LogPart.TheVariants.{Words, Cell}
use Rattle.wit_run.specs.declared.lines.Held.{Held}
use Rattle.wit_run.specs.declared.lines.Held.TheVariants as holds

abbrev pub cells_in : Held → Cells
cells_in (holds.All values) = held (map Some values.now)
cells_in (holds.Some cells) = held cells.now

abbrev pub part_text : Cells → LogPart → List ℕ
part_text cells (Words text) = text
part_text cells (Cell c) = decimal (unwrap_or (cells c) 0)

-- a part behind a space, unless it is the first
abbrev pub behind_space : (place : ℕ) → List ℕ → List ℕ
behind_space place text = if place == 0 then text else 32 ∷ text

abbrev pub line_text : Cells → List LogPart → List ℕ
line_text cells parts = log_line (map (part_text cells) parts)

-- those of the steps with a smaller number
abbrev pub lines_before : ℕ → Cells → List LogLine → List (List ℕ)
lines_before step cells logs =
    map (λ l. line_text cells l.parts) (filter (λ l. nat_lt l.step step) logs)
