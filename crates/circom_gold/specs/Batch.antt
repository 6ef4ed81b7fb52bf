-- The command `batch`: the runs of a source's program on the lines of a file.
use Rattle.std.specs.Prelude.{◌≡◌, ℕ, ◌+◌, ◌*◌, ◌<◌, ◌≤◌, ◌⊎◌, List}
use Rattle.std.specs.Prelude.{[], ◌∷◌, ◌++◌, length, All}
use Rattle.std.specs.Prelude.{Some, None, Result, Ok, Err, ⊤}
use Rattle.std.specs.List.{AllZip}
use Rattle.text_lines.specs.Lines.{lines_of}
use Rattle.out_io.specs.Contents.{Contents}
use Rattle.iden_files.specs.File.{File}
use Rattle.iden_files.specs.ReadWtns.{wtns_of}
use Rattle.iden_files.specs.Spelling.{wtns_bytes}
use Rattle.cir_ast.specs.Program.{Program}
use Rattle.cir_steps.specs.Circuit.{Circuit, circuit_of}
use Rattle.cir_values.specs.declared.signals.InputShape.{InputShape}
use Rattle.wit_input.specs.Input.{input_of}
use Rattle.wit_run.specs.Batch.{most_batch}
use Rattle.circom_words.specs.Words.{Options}
use Rattle.circom_lines.specs.Lines.{refusal_line}
use Rattle.circom_lines.specs.RunLines.{batch_line, stop_line}
use Rattle.circom_lines.specs.declared.answer.Refusal.{Refusal}
use Rattle.circom_lines.specs.declared.answer.Refusal.TheVariants.{LargeBatch}
use Rattle.circom_files.specs.Files.{bytes_in}
use Rattle.circom_files.specs.Reply.{Reply, written}
use Rattle.circom_files.specs.Running.{accepted_input}
use Rattle.circom_files.specs.Satisfaction.{Satisfies}
use Rattle.circom_files.specs.declared.outcome.Ran.{Ran}
use Rattle.circom_files.specs.declared.outcome.Ran.TheVariants.{Ended, Halted}
use Rattle.circom_batch.specs.Items.{batch_bytes, without_feed, witnesses}
use Rattle.circom_batch.specs.declared.item.Item.{Item}
use Rattle.circom_batch.specs.declared.item.Item.TheVariants.{Witness, Refused}
use Rattle.circom_gold.specs.Compile.{CompilesTo}
use Rattle.circom_gold.specs.Witness.{HasInputs, IsRunOf, IsSource}

-- what the line gives as the program's input
pub record GivesLine (line : List ℕ) (program : Program) (found : Result (List ℕ) Refusal)
    : Type 0 where
  pub inputs : List InputShape
  pub has : HasInputs program inputs
  pub reads : accepted_input inputs (input_of line inputs) ≡ found

-- what the program comes to on the line alone: how its run ends, with the values of the file's
-- wires, or the refusal of the line
abbrev pub RunsOn : Program → File → (fuel : ℕ) → (line : List ℕ) → Result Ran Refusal
    → Type 0
RunsOn program file fuel line (Ok found) =
    (inputs : List ℕ) × GivesLine line program (Ok (1 ∷ inputs))
    × IsRunOf program file fuel inputs found
RunsOn program file fuel line (Err refusal) = GivesLine line program (Err refusal)

-- the file that `witness` writes of what it found, or the line of its refusal, without its line
-- feed
abbrev pub item_of : Result Ran Refusal → Item
item_of (Ok (Ended values log)) = Witness (wtns_bytes values)
item_of (Ok (Halted h)) = Refused (without_feed (stop_line h.stop h.place))
item_of (Err refusal) = Refused (without_feed (refusal_line refusal))

-- the item is that of the line alone
abbrev pub IsItem : Program → File → (fuel : ℕ) → (line : List ℕ) → Item → Type 0
IsItem program file fuel line item =
    (found : Result Ran Refusal) × RunsOn program file fuel line found × (item ≡ item_of found)

-- what so many lines count: each of them the cells and the steps of the program's circuit, and 64
pub record Counts (program : Program) (lines size : ℕ) : Type 0 where
  pub circuit : Circuit
  pub emitted : circuit_of program ≡ Ok circuit
  pub counted : size ≡ lines * (circuit.cells + length circuit.steps + 64)

-- The source compiles, the file of lines is there, and they don't count more than a batch may. The
-- items are those of the lines, each of its line alone.
pub record IsBatched (files : Contents) (source inputs : List ℕ) (options : Options) (fuel : ℕ)
    (items : List Item) : Type 0 where
  pub program : Program
  pub file : File
  pub compiled : IsSource files source options program file
  pub text : List ℕ
  pub read : bytes_in files inputs ≡ Ok text
  pub size : ℕ
  pub counts : Counts program (length (lines_of text)) size
  pub few : size ≤ most_batch
  pub each : AllZip (IsItem program file fuel) (lines_of text) items

-- the file of lines is there, and they count more than a batch may
pub record IsTooLarge (files : Contents) (inputs : List ℕ) (program : Program)
    (refusal : Refusal) : Type 0 where
  pub text : List ℕ
  pub read : bytes_in files inputs ≡ Ok text
  pub size : ℕ
  pub counts : Counts program (length (lines_of text)) size
  pub many : most_batch < size
  pub is : refusal ≡ LargeBatch size

-- the source compiles, and there is no file of lines, or they count too much
pub record IsUnbatched (files : Contents) (source inputs : List ℕ) (options : Options)
    (refusal : Refusal) : Type 0 where
  pub program : Program
  pub file : File
  pub compiled : IsSource files source options program file
  pub why : (bytes_in files inputs ≡ Err refusal) ⊎ IsTooLarge files inputs program refusal

-- what `batch` finds: the items of the lines, or its one refusal
abbrev pub Batches : Contents → (source inputs : List ℕ) → Options → (fuel : ℕ)
    → Result (List Item) Refusal → Type 0
Batches files source inputs options fuel (Ok items) =
    IsBatched files source inputs options fuel items
Batches files source inputs options fuel (Err refusal) =
    CompilesTo files source options (Err refusal)
    ⊎ IsUnbatched files source inputs options refusal

-- the items are written under the name
abbrev pub batched : List ℕ → List Item → Reply
batched out items =
    written (batch_line (length items) (witnesses items)) out (batch_bytes items)

-- the source compiles, the file of lines is there, and they don't count more than a batch may
pub record HasBatch (files : Contents) (source inputs : List ℕ) (options : Options) (fuel : ℕ)
    : Type 0 where
  pub items : List Item
  pub found : IsBatched files source inputs options fuel items

-- the bytes of a file of values are read as values that satisfy the file of constraints
abbrev pub HasValues : File → Item → Type 0
HasValues file (Witness bytes) =
    (values : List ℕ) × (wtns_of bytes ≡ Ok values) × Satisfies file values
HasValues file (Refused line) = ⊤

-- the bytes are the file of the items of the lines
pub record IsBatchOf (files : Contents) (source inputs : List ℕ) (options : Options) (fuel : ℕ)
    (bytes : List ℕ) : Type 0 where
  pub items : List Item
  pub found : IsBatched files source inputs options fuel items
  pub spelled : bytes ≡ batch_bytes items
  pub satisfied : All (HasValues found.file) items

-- the reply writes the file of values, or the last line of its text is that of the refusal
abbrev pub SaysItem : (out : List ℕ) → Reply → Item → Type 0
SaysItem out r (Witness bytes) =
    (r.status ≡ 0) × (r.file ≡ Some (record { name = out; bytes = bytes }))
SaysItem out r (Refused line) =
    (r.status ≡ 1) × (r.file ≡ None)
    × ((log last : List ℕ) × (r.text ≡ log ++ last) × (line ≡ without_feed last))
