-- The input of a run, and the replies of the commands that run a circuit.
use Rattle.std.specs.Prelude.{ℕ, List, [], ◌++◌, length, slice_get, None, Result, Ok, Err}
use Rattle.std.specs.Option.{option_map_or}
use Rattle.binary_format.specs.Reading.{◌>>=◌}
use Rattle.out_io.specs.Contents.{Contents}
use Rattle.iden_files.specs.Spelling.{wtns_bytes}
use Rattle.cir_values.specs.declared.signals.InputShape.{InputShape}
use Rattle.wit_input.specs.Input.{input_of}
use Rattle.wit_input.specs.declared.fault.InputFault.{InputFault}
use Rattle.wit_input.specs.declared.fault.InputFault.TheVariants as input
use Rattle.circom_lines.specs.RunLines.{log_text, stop_line, witness_line, generated_line}
use Rattle.circom_lines.specs.declared.answer.Refusal.{Refusal}
use Rattle.circom_lines.specs.declared.answer.Refusal.TheVariants.{BadInput as BadInputs}
use Rattle.circom_lines.specs.declared.answer.BadInput.{BadInput}
use Rattle.circom_lines.specs.declared.answer.BadInput.TheVariants.{NotJson, Missing, UnknownSignal}
use Rattle.circom_lines.specs.declared.answer.BadInput.TheVariants.{WrongCount, BadNumber}
use Rattle.circom_files.specs.Files.{bytes_in}
use Rattle.circom_files.specs.Reply.{Reply, written}
use Rattle.circom_files.specs.declared.outcome.Halt.{Halt}
use Rattle.circom_files.specs.declared.outcome.Ran.{Ran}
use Rattle.circom_files.specs.declared.outcome.Ran.TheVariants.{Ended, Halted}
use Rattle.circom_files.specs.declared.outcome.Generated.{Generated}
use Rattle.circom_files.specs.declared.outcome.Generated.TheVariants as made

-- the name of the input of this place
abbrev pub name_at : List InputShape → ℕ → List ℕ
name_at inputs place = option_map_or (λ i. i.name) (slice_get inputs place) []

-- what is wrong with an input, by the names of main's inputs; want of memory is no refusal
abbrev pub bad_input : List InputShape → InputFault → BadInput
bad_input inputs input.NotJson = NotJson
bad_input inputs (input.Missing place) = Missing (name_at inputs place)
bad_input inputs (input.UnknownSignal key) = UnknownSignal key
bad_input inputs (input.WrongCount place has wants) = WrongCount (name_at inputs place) has wants
bad_input inputs (input.BadNumber place index) = BadNumber (name_at inputs place) index
bad_input inputs input.OutOfMemory = NotJson

abbrev pub accepted_input : List InputShape → Result (List ℕ) InputFault
    → Result (List ℕ) Refusal
accepted_input inputs (Ok values) = Ok values
accepted_input inputs (Err fault) = Err (BadInputs (bad_input inputs fault))

-- 1 and the numbers of main's inputs, from the file under the name
unfoldable pub input_in : Contents → List ℕ → List InputShape → Result (List ℕ) Refusal
input_in files name inputs = do
  bytes ← bytes_in files name
  accepted_input inputs (input_of bytes inputs)

-- the log lines, and why and where the run stops
abbrev pub halted : Halt → Reply
halted h = record {
  status = 1;
  text = log_text h.log ++ stop_line h.stop h.place;
  file = None;
}

-- the log lines; the values are written under the name
abbrev pub witnessed : List ℕ → Ran → Reply
witnessed out (Ended values log) =
    written (log_text log ++ witness_line (length values)) out (wtns_bytes values)
witnessed out (Halted h) = halted h

abbrev pub generated : (links : ℕ) → Generated → Reply
generated links (made.Ended wires constraints out log) = record {
  status = 0;
  text = log_text log ++ generated_line links wires constraints out;
  file = None;
}
generated links (made.Halted h) = halted h

-- the values of the wires, where there are some
abbrev pub values_of : Ran → List ℕ
values_of (Ended values log) = values
values_of (Halted h) = []
