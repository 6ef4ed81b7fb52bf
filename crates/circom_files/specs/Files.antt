-- What the files that a command names mean, or why the first one is refused.
use Rattle.std.specs.Prelude.{ℕ, List, Option, Some, None, Result, Ok, Err, codes}
use Rattle.binary_format.specs.Reading.{◌>>=◌}
use Rattle.out_io.specs.Contents.{Contents}
use Rattle.iden_files.specs.File.{File}
use Rattle.iden_files.specs.ReadR1cs.{r1cs_of}
use Rattle.iden_files.specs.ReadWtns.{wtns_of}
use Rattle.iden_files.specs.Refusal.{Refusal as Fault}
use Rattle.text_lines.specs.Reading.{LineRefusal, bad, over}
use Rattle.cir_determined.specs.Text.{rules_of}
use Rattle.cir_determined.specs.declared.rule.Rule.{Rule}
use Rattle.circom_lines.specs.declared.answer.Refusal.{Refusal}
use Rattle.circom_lines.specs.declared.answer.Refusal.TheVariants.{NoSuchFile, BadFile, BadLines}
use Rattle.circom_lines.specs.declared.answer.LineKind.{LineKind}
use Rattle.circom_lines.specs.declared.answer.LineKind.TheVariants.{Rule as OfRules, Symbol}
use Rattle.circom_lines.specs.declared.answer.LineCause.TheVariants.{BadLine, Limit}
use Rattle.circom_lines.specs.declared.answer.Refusal.TheVariants.{BadInput as BadInputs}
use Rattle.circom_lines.specs.declared.answer.BadInput.{BadInput}
use Rattle.circom_lines.specs.declared.answer.BadInput.TheVariants.{NotJson}
use Rattle.circom_lines.specs.declared.answer.BadInput.TheVariants.{BadNumber as BadNumbers}
use Rattle.sym_file.specs.Line.{symbols_of}
use Rattle.sym_file.specs.declared.line.SymLine.{SymLine}
use Rattle.wit_input.specs.Publics.{publics_of}
use Rattle.wit_input.specs.declared.fault.InputFault.{InputFault}
use Rattle.wit_input.specs.declared.fault.InputFault.TheVariants.{BadNumber}

-- the bytes under the name
abbrev pub bytes_in : Contents → List ℕ → Result (List ℕ) Refusal
bytes_in files name = found name (files name)
  where
    found : List ℕ → Option (List ℕ) → Result (List ℕ) Refusal
    found name None = Err (NoSuchFile name)
    found name (Some bytes) = Ok bytes

-- what a reader of this file's bytes gives
abbrev pub accepted : {X : Type 0} → List ℕ → Result X Fault → Result X Refusal
accepted name (Ok x) = Ok x
accepted name (Err fault) = Err (BadFile name fault.cause fault.offset)

-- the file of constraints under the name
unfoldable pub r1cs_in : Contents → List ℕ → Result File Refusal
r1cs_in files name = do
  bytes ← bytes_in files name
  accepted name (r1cs_of bytes)

-- the values under the name
unfoldable pub wtns_in : Contents → List ℕ → Result (List ℕ) Refusal
wtns_in files name = do
  bytes ← bytes_in files name
  accepted name (wtns_of bytes)

-- what is wrong with a public file: it is no array, or a value of it is no number
abbrev pub bad_publics : InputFault → BadInput
bad_publics (BadNumber input index) = BadNumbers (codes "public") index
bad_publics _ = NotJson

abbrev pub accepted_publics : Result (List ℕ) InputFault → Result (List ℕ) Refusal
accepted_publics (Ok values) = Ok values
accepted_publics (Err fault) = Err (BadInputs (bad_publics fault))

-- the public values under the name
unfoldable pub publics_in : Contents → List ℕ → Result (List ℕ) Refusal
publics_in files name = do
  bytes ← bytes_in files name
  accepted_publics (publics_of bytes)

-- what a text of such lines says, or what is wrong with it
abbrev pub accepted_lines : {X : Type 0} → LineKind → List ℕ → Result X LineRefusal
    → Result X Refusal
accepted_lines kind name (Ok lines) = Ok lines
accepted_lines kind name (Err (bad line)) = Err (BadLines name kind BadLine line)
accepted_lines kind name (Err (over line)) = Err (BadLines name kind Limit line)

abbrev pub accepted_rules : List ℕ → Result (List Rule) LineRefusal
    → Result (List Rule) Refusal
accepted_rules name found = accepted_lines OfRules name found

-- the rules under the name
unfoldable pub rules_in : Contents → List ℕ → Result (List Rule) Refusal
rules_in files name = do
  bytes ← bytes_in files name
  accepted_rules name (rules_of bytes)

abbrev pub accepted_symbols : List ℕ → Result (List SymLine) LineRefusal
    → Result (List SymLine) Refusal
accepted_symbols name found = accepted_lines Symbol name found

-- the names of wires under the name
unfoldable pub symbols_in : Contents → List ℕ → Result (List SymLine) Refusal
symbols_in files name = do
  bytes ← bytes_in files name
  accepted_symbols name (symbols_of bytes)
