-- The lines of the commands that run a circuit.
use Rattle.std.specs.Prelude.{ℕ, List, [], ◌∷◌, ◌++◌, codes, decimal}
use Rattle.cir_ast.specs.declared.refusal.Place.{Place}
use Rattle.wit_code.specs.declared.code.Stop.{Stop}
use Rattle.wit_code.specs.declared.code.Stop.TheVariants.{ConstraintFails, AssertFails, ZeroDivisor}
use Rattle.wit_code.specs.declared.code.Stop.TheVariants.{IndexOut, FuelSpent, TooDeep, OutOfMemory}
use Rattle.circom_lines.specs.Lines.{line, placed_line}

-- a line for each of these
abbrev pub log_text : List (List ℕ) → List ℕ
log_text [] = []
log_text (text ∷ texts) = text ++ 10 ∷ log_text texts

-- no line says that a run wants memory
abbrev pub stop_text : Stop → List ℕ
stop_text ConstraintFails = codes "W1 ConstraintFails"
stop_text AssertFails = codes "W2 AssertFails"
stop_text ZeroDivisor = codes "W3 ZeroDivisor"
stop_text IndexOut = codes "W4 IndexOut"
stop_text FuelSpent = codes "W5 FuelSpent"
stop_text TooDeep = codes "W6 TooDeep"
stop_text OutOfMemory = codes ""

abbrev pub stop_line : Stop → Place → List ℕ
stop_line stop place = placed_line (stop_text stop) [] [] place

abbrev pub witness_line : ℕ → List ℕ
witness_line values = line (codes "witness: values " ∷ decimal values ∷ [])

abbrev pub batch_line : (inputs witnesses : ℕ) → List ℕ
batch_line inputs witnesses =
    line
    (codes "batch: inputs " ∷ decimal inputs ∷ codes ", witnesses " ∷ decimal witnesses ∷ [])

abbrev pub generated_line : (links wires constraints out : ℕ) → List ℕ
generated_line links wires constraints out =
    line
    (codes "generated: links " ∷ decimal links ∷ codes ", wires " ∷ decimal wires
    ∷ codes ", constraints " ∷ decimal constraints ∷ codes ", satisfied, out " ∷ decimal out ∷ [])
