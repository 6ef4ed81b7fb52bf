-- The lines of `sym`, and of `check` where wires have names.
use Rattle.std.specs.Prelude.{ℕ, List, [], ◌∷◌, ◌++◌, codes, decimal}
use Rattle.circom_lines.specs.Lines.{line}

abbrev pub symbols_line : ℕ → List ℕ
symbols_line lines = line (codes "sym: lines " ∷ decimal lines ∷ [])

-- a wire that no line names
abbrev pub wire_name : ℕ → List ℕ
wire_name wire = codes "wire " ++ decimal wire

-- the names, with a space before each
abbrev pub names_text : List (List ℕ) → List ℕ
names_text [] = []
names_text (name ∷ names) = 32 ∷ (name ++ names_text names)

-- a constraint that fails, with the names of its wires
abbrev pub named_line : (index : ℕ) → (names : List (List ℕ)) → List ℕ
named_line index names =
    line (codes "unsatisfied: constraint " ∷ decimal index ∷ codes ":" ∷ names_text names ∷ [])
