-- The commands `witness` and `generate`: the run of a source's program.
use Rattle.std.specs.Prelude.{◌≡◌, ℕ, List, [], ◌∷◌, map, length, slice_get}
use Rattle.std.specs.Prelude.{slice_index, unwrap_or}
use Rattle.std.specs.Prelude.{Some, None, Result, Ok, Err, ◌⊎◌, bytes_eq, codes}
use Rattle.std.specs.Prelude.{if◌then◌else◌}
use Rattle.out_io.specs.Contents.{Contents}
use Rattle.iden_files.specs.File.{File}
use Rattle.iden_files.specs.ReadWtns.{wtns_of}
use Rattle.cir_ast.specs.Program.{Program}
use Rattle.cir_ast.specs.declared.refusal.Place.{Place}
use Rattle.cir_names.specs.Loading.{IsLoaded}
use Rattle.cir_compile.specs.Compiled.{IsWritten}
use Rattle.cir_inst.specs.Table.{shape_of}
use Rattle.cir_meaning.specs.Compile.{Circuit, compiled}
use Rattle.cir_meaning.specs.Tried.{Where}
use Rattle.cir_meaning.specs.Run.{Stopped}
use Rattle.cir_meaning.specs.RunBodies.{ran}
use Rattle.cir_simplify.specs.declared.types.Level.TheVariants.{O1}
use Rattle.cir_values.specs.declared.signals.InputShape.{InputShape}
use Rattle.wit_code.specs.Table.{stop_number}
use Rattle.circom_lines.specs.Generated.{generated_text, generated_input}
use Rattle.circom_words.specs.Words.{Options}
use Rattle.circom_lines.specs.declared.answer.Refusal.{Refusal}
use Rattle.circom_files.specs.Running.{input_in}
use Rattle.circom_files.specs.Satisfaction.{Satisfies}
use Rattle.circom_files.specs.declared.outcome.Halt.{Halt}
use Rattle.circom_files.specs.declared.outcome.Ran.{Ran}
use Rattle.circom_files.specs.declared.outcome.Ran.TheVariants.{Ended, Halted}
use Rattle.circom_files.specs.declared.outcome.Generated.{Generated}
use Rattle.circom_files.specs.declared.outcome.Generated.TheVariants as made
use Rattle.circom_gold.specs.Compile.{CompilesTo}

-- the program is that of the source under the name with all that it includes, and the file is what
-- it compiles to
pub record IsSource (files : Contents) (source : List ℕ) (options : Options) (program : Program)
    (file : File) : Type 0 where
  pub loaded : IsLoaded files source options.folder program
  pub written : IsWritten program options.level file

-- the inputs of the program's main component, in the order of their signals
pub record HasInputs (program : Program) (inputs : List InputShape) : Type 0 where
  pub meaning : Circuit
  pub compiles : compiled program ≡ Ok meaning
  pub are : map shape_of inputs ≡ meaning.inputs

-- what the file under the name gives as the program's input
pub record GivesInput (files : Contents) (input : List ℕ) (program : Program)
    (found : Result (List ℕ) Refusal) : Type 0 where
  pub inputs : List InputShape
  pub has : HasInputs program inputs
  pub reads : input_in files input inputs ≡ found

-- The program runs to its end, with these units for each step and these numbers for main's inputs:
-- its signals have these numbers, by their own, that of signal 0 first, and these lines are logged.
abbrev pub RunsTo : Program → (fuel : ℕ) → (inputs numbers : List ℕ) → (log : List (List ℕ))
    → Type 0
RunsTo program fuel inputs numbers log =
    ran program fuel inputs ≡ Ok (record { values = map Some numbers; log = log })

-- a place as a user sees it
abbrev pub place_of : Program → Where → Place
place_of program w = record {
  file = unwrap_or (slice_get program.files w.file) [];
  line = w.spot.line;
  column = w.spot.column;
  path = w.path;
}

-- the program's run stops so
pub record HaltsBy (program : Program) (fuel : ℕ) (inputs : List ℕ) (h : Halt) : Type 0 where
  pub number : ℕ
  pub at : Where
  pub runs : ran program fuel inputs ≡ Err (Stopped number at h.log)
  pub stop : stop_number h.stop ≡ Some number
  pub place : h.place ≡ place_of program at

-- the values of the file's wires: of each the number of the signal that its label names
abbrev pub values_by_wire : File → List ℕ → List ℕ
values_by_wire file numbers = map (slice_index numbers) file.labels

-- how the program's run ends, with the values of the file's wires
abbrev pub IsRunOf : Program → File → (fuel : ℕ) → (inputs : List ℕ) → Ran → Type 0
IsRunOf program file fuel inputs (Ended values log) =
    (numbers : List ℕ) × RunsTo program fuel inputs numbers log
    × (values ≡ values_by_wire file numbers)
IsRunOf program file fuel inputs (Halted h) = HaltsBy program fuel inputs h

-- the source compiles, its input is read, and the run of its program ends so
pub record IsWitnessed (files : Contents) (source input : List ℕ) (options : Options) (fuel : ℕ)
    (found : Ran) : Type 0 where
  pub program : Program
  pub file : File
  pub compiled : IsSource files source options program file
  pub inputs : List ℕ
  pub given : GivesInput files input program (Ok (1 ∷ inputs))
  pub run : IsRunOf program file fuel inputs found

-- the source compiles, and its input is refused
pub record IsInputRefused (files : Contents) (source input : List ℕ) (options : Options)
    (refusal : Refusal) : Type 0 where
  pub program : Program
  pub file : File
  pub compiled : IsSource files source options program file
  pub given : GivesInput files input program (Err refusal)

-- what `witness` finds: how the run ends, or the refusal of the source or else of the input
abbrev pub Witnesses : Contents → (source input : List ℕ) → Options → (fuel : ℕ)
    → Result Ran Refusal → Type 0
Witnesses files source input options fuel (Ok found) =
    IsWitnessed files source input options fuel found
Witnesses files source input options fuel (Err refusal) =
    CompilesTo files source options (Err refusal)
    ⊎ IsInputRefused files source input options refusal

-- one file, under the name `generated`
abbrev pub generated_name : List ℕ
generated_name = codes "generated"

abbrev pub one_file : List ℕ → Contents
one_file text name = if bytes_eq name generated_name then Some text else None

abbrev pub generated_files : ℕ → Contents
generated_files size = one_file (generated_text size)

abbrev pub generated_options : Options
generated_options = record { level = O1; folder = None }

-- how the run of a generated circuit ends: its output is signal 1, and its values satisfy the file
abbrev pub IsGeneratedRun : Program → File → (fuel : ℕ) → (inputs : List ℕ) → Generated → Type 0
IsGeneratedRun program file fuel inputs (made.Ended wires constraints out log) =
    (numbers : List ℕ) × RunsTo program fuel inputs numbers log × (wires ≡ file.wires)
    × (constraints ≡ length file.constraints) × (out ≡ slice_index numbers 1)
    × Satisfies file (values_by_wire file numbers)
IsGeneratedRun program file fuel inputs (made.Halted h) = HaltsBy program fuel inputs h

pub record IsGenerated (seed size fuel : ℕ) (found : Generated) : Type 0 where
  pub program : Program
  pub file : File
  pub compiled : IsSource (generated_files size) generated_name generated_options program file
  pub run : IsGeneratedRun program file fuel (generated_input seed) found

-- what `generate` finds
abbrev pub Generates : (seed size fuel : ℕ) → Result Generated Refusal → Type 0
Generates seed size fuel (Ok found) = IsGenerated seed size fuel found
Generates seed size fuel (Err refusal) =
    CompilesTo (generated_files size) generated_name generated_options (Err refusal)

-- the run of the circuit of so many links ends, from this seed on
pub record HasGenerated (seed size fuel : ℕ) : Type 0 where
  pub wires : ℕ
  pub constraints : ℕ
  pub out : ℕ
  pub log : List (List ℕ)
  pub found : IsGenerated seed size fuel (made.Ended wires constraints out log)

-- the source compiles, its input is read, and the run of its program doesn't stop
pub record HasWitness (files : Contents) (source input : List ℕ) (options : Options) (fuel : ℕ)
    : Type 0 where
  pub values : List ℕ
  pub log : List (List ℕ)
  pub found : IsWitnessed files source input options fuel (Ended values log)

-- The bytes are read as the values of the wires of the source's file: those of the run of its
-- program on the input. They satisfy the file.
pub record IsWitnessOf (files : Contents) (source input : List ℕ) (options : Options) (fuel : ℕ)
    (bytes : List ℕ) : Type 0 where
  pub values : List ℕ
  pub log : List (List ℕ)
  pub found : IsWitnessed files source input options fuel (Ended values log)
  pub read : wtns_of bytes ≡ Ok values
  pub satisfied : Satisfies found.file values
