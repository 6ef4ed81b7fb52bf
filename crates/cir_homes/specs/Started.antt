-- The cells of main's public inputs, or of the others.
use Rattle.std.specs.Prelude.{ℕ, Bool, true, false, not, ◌&&◌, if◌then◌else◌, List, [], Option}
use Rattle.std.specs.Prelude.{Some, None}
use Rattle.cir_ast.specs.Program.{Main}
use Rattle.cir_meaning.specs.Frame.{SignalEntry, is_input}
use Rattle.cir_meaning.specs.Run.{Wires}
use Rattle.cir_steps.specs.Circuit.{entry_cells, is_public}

abbrev pub is_chosen : Main → (public : Bool) → SignalEntry → Bool
is_chosen m true e = is_public m e
is_chosen m false e = not (is_public m e)

-- those of the signal of this number
abbrev pub chosen_cells : (SignalEntry → Bool) → Wires → (n : ℕ) → Option SignalEntry → List ℕ
chosen_cells test wires n None = []
chosen_cells test wires n (Some e) =
    if is_input e.direction && test e then entry_cells wires n e else []
