-- The command `check` where wires have names: the names of the wires of the constraint that fails.
use Rattle.std.specs.Prelude.{◌==◌, ℕ, zero, suc, ◌-◌, ◌||◌, Bool, false, List, []}
use Rattle.std.specs.Prelude.{◌∷◌, ◌++◌, map, find, slice_get, if◌then◌else◌}
use Rattle.std.specs.Prelude.{Option, Some, None}
use Rattle.std.specs.Prelude.{Result, Ok}
use Rattle.std.specs.List.{list_any}
use Rattle.std.specs.Option.{option_map_or}
use Rattle.binary_format.specs.Reading.{◌>>=◌}
use Rattle.out_io.specs.Contents.{Contents}
use Rattle.gold_field.specs.declared.form.Term.{Term}
use Rattle.gold_field.specs.declared.form.Constraint.{Constraint}
use Rattle.iden_files.specs.File.{File}
use Rattle.sym_file.specs.declared.line.SymLine.{SymLine}
use Rattle.circom_lines.specs.Symbols.{wire_name}
use Rattle.circom_lines.specs.declared.answer.Refusal.{Refusal}
use Rattle.circom_lines.specs.declared.answer.Verdict.{Verdict}
use Rattle.circom_lines.specs.declared.answer.Verdict.TheVariants.{ConstraintFails}
use Rattle.circom_files.specs.Check.{verdict}
use Rattle.circom_files.specs.Files.{symbols_in}
use Rattle.circom_files.specs.Proving.{witness_of}
use Rattle.circom_named.specs.declared.described.Described.{Described}
use Rattle.circom_files.specs.declared.outcome.Named.{Named}

-- the wire stands in the terms, and in the constraint
abbrev pub stands_in : ℕ → List Term → Bool
stands_in wire terms = list_any (λ t. t.signal == wire) terms

abbrev pub occurs : ℕ → Constraint → Bool
occurs wire k = stands_in wire k.a || stands_in wire k.b || stands_in wire k.c

-- the wires 1 to n that occur in the constraint, rising, each once
abbrev pub wires_to : (n : ℕ) → Constraint → List ℕ
wires_to zero k = []
wires_to (suc n) k = wires_to n k ++ (if occurs (suc n) k then suc n ∷ [] else [])

abbrev pub is_wire : ℕ → Option ℕ → Bool
is_wire wire None = false
is_wire wire (Some w) = w == wire

-- the line is of the wire
abbrev pub is_of : ℕ → SymLine → Bool
is_of wire line = is_wire wire line.wire

-- the name of a wire: that of its first line, if it has one
abbrev pub name_by : ℕ → Option SymLine → List ℕ
name_by wire None = wire_name wire
name_by wire (Some line) = line.name

abbrev pub name_of : List SymLine → ℕ → List ℕ
name_of lines wire = name_by wire (find (is_of wire) lines)

-- the names of the constraint's wires, without wire 0, where all are below this number
abbrev pub names_of : List SymLine → (wires : ℕ) → Constraint → List (List ℕ)
names_of lines wires k = map (name_of lines) (wires_to (wires - 1) k)

-- the names of the wires of the constraint that fails, if one does
abbrev pub failing_names : File → List SymLine → Verdict → List (List ℕ)
failing_names file lines (ConstraintFails index) =
    option_map_or (names_of lines file.wires) (slice_get file.constraints index) []
failing_names file lines _ = []

abbrev pub named : File → List ℕ → List SymLine → Named
named file values lines = record {
  verdict = verdict file values;
  names = failing_names file lines (verdict file values);
}

-- the files in the order of the words
unfoldable pub described_of : Contents → (r1cs wtns names : List ℕ) → Result Described Refusal
described_of files r1cs wtns names = do
  witness ← witness_of files r1cs wtns
  lines ← symbols_in files names
  Ok (record { witness = witness; lines = lines })

unfoldable pub check_named_of : Contents → (r1cs wtns names : List ℕ) → Result Named Refusal
check_named_of files r1cs wtns names = do
  d ← described_of files r1cs wtns names
  Ok (named d.witness.file d.witness.values d.lines)
