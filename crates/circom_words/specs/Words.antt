-- What the words on the command line ask for.
use Rattle.std.specs.Prelude.{◌==◌, ℕ, Bool, true, false, List, [], ◌∷◌, map, Option, Some, None}
use Rattle.std.specs.Prelude.{String, string_bytes, if◌then◌else◌, is_some, codes}
use Rattle.std.specs.Option.{option_map, option_map_or, option_and_then}
use Rattle.std.specs.Result.{result_ok}
use Rattle.std.specs.Str.{bytes_eq}
use Rattle.std.specs.declared.alloc.Global.{Global}
use Rattle.clap.specs.Kinds.{Kinds}
use Rattle.clap.specs.Faults.{fault_of}
use Rattle.clap.specs.Walk.{Row, first_of}
use Rattle.clap.specs.Simple.{App, matches_of}
use Rattle.cir_simplify.specs.declared.types.Level.{Level}
use Rattle.cir_simplify.specs.declared.types.Level.TheVariants.{O0, O1, O2}
use Rattle.hex.specs.Hex.{decode_sized}
use Rattle.lig_proof.specs.declared.version.Version.{Version}
use Rattle.lig_proof.specs.declared.version.Version.TheVariants.{One, Two}
use Rattle.circom_words.specs.Forms.{form_of}
use Rattle.circom_words.specs.Numbers.{number_in}
use Rattle.circom_words.specs.declared.names.CommandWord.{CommandWord}
use Rattle.circom_words.specs.declared.names.CommandWord.TheVariants as word
use Rattle.circom_words.specs.declared.options.Options.{Options as AskedOptions}
use Rattle.circom_words.specs.declared.options.ProveOptions.{ProveOptions as AskedProving}
use Rattle.circom_words.specs.declared.options.RunOptions.{RunOptions}
use Rattle.circom_words.specs.declared.options.ThreeNames.{ThreeNames}
use Rattle.circom_words.specs.declared.plain.PlainCommand.{PlainCommand}
use Rattle.circom_words.specs.declared.plain.PlainCommand.TheVariants as plain
use Rattle.circom_words.specs.declared.circuit.CircuitCommand.{CircuitCommand}
use Rattle.circom_words.specs.declared.circuit.CircuitCommand.TheVariants as circuit
use Rattle.circom_words.specs.declared.words.Command.{Command as Asked}
use Rattle.circom_words.specs.declared.words.Command.TheVariants.{Plain, Circuit}

-- what the options of a command say
pub record Options : Type 0 where
  -- which linear constraints are solved
  pub level : Level
  -- the folder of `-l`, in which included files are looked for too
  pub folder : Option (List ℕ)

-- what the options of `prove` say
pub record ProveOptions : Type 0 where
  -- 32 bytes
  pub seed : List ℕ
  pub version : Version

-- a command, with the names of its files
pub data Command : Type 0 where
  check : (r1cs wtns : List ℕ) → Command
  check_named : (r1cs wtns names : List ℕ) → Command
  compile : (source out : List ℕ) → (options : Options) → Command
  witness : (source input out : List ℕ) → (options : Options) → (running : RunOptions) → Command
  prove : (r1cs wtns out : List ℕ) → (options : ProveOptions) → Command
  public : (r1cs wtns out : List ℕ) → Command
  audit : (r1cs publics proof : List ℕ) → Command
  name_signals : (source out : List ℕ) → (options : Options) → Command
  batch : (source inputs out : List ℕ) → (options : Options) → (running : RunOptions) → Command
  determine : (r1cs out : List ℕ) → Command
  confirm : (r1cs certificate : List ℕ) → Command
  generate : (seed size : ℕ) → (running : RunOptions) → Command

-- the words by their bytes
abbrev pub texts : List (String Global) → List (List ℕ)
texts words = map string_bytes words

-- these rows, where there is no fault
abbrev pub unless : Kinds → List Row → Option (List Row)
unless [] rows = Some rows
unless (fault ∷ faults) rows = None

-- what `clap` finds in the words of such a command, the first of which is the command word; None
-- where it refuses them, as it does words that ask for help
abbrev pub found : App → List (List ℕ) → Option (List Row)
found form words = unless (fault_of form words) (matches_of form words)

infixl 10 ◌>>=◌
abbrev pub ◌>>=◌ : {A B : Type 0} → Option A → (A → Option B) → Option B
o >>= f = option_and_then f o

-- `clap` gives a flag the value `true` where it stands among the words, else `false`
abbrev pub is_set : List ℕ → List Row → Bool
is_set name rows = option_map_or (λ text. bytes_eq text (codes "true")) (first_of name rows) false

-- the level of the flag that is set, `--O1` where none is; two have no level
abbrev pub level_of : (zero one two : Bool) → Option Level
level_of true false false = Some O0
level_of false true false = Some O1
level_of false false true = Some O2
level_of false false false = Some O1
level_of _ _ _ = None

abbrev pub level_in : List Row → Option Level
level_in rows =
    level_of (is_set (codes "O0") rows) (is_set (codes "O1") rows) (is_set (codes "O2") rows)

abbrev pub options_in : List Row → Option Options
options_in rows =
    option_map (λ level. record { level = level; folder = first_of (codes "DIR") rows })
    (level_in rows)

-- the number of an option's word; this one where the option isn't given
abbrev pub number_or : (default low high : ℕ) → Option (List ℕ) → Option ℕ
number_or default low high None = Some default
number_or default low high (Some word) = number_in low high word

-- 4 workers and 1,048,576 units, where no others are asked for
abbrev pub running_in : List Row → Option RunOptions
running_in rows = do
  workers ← number_or 4 1 64 (first_of (codes "workers") rows)
  fuel ← number_or 1048576 0 4294967295 (first_of (codes "fuel") rows)
  Some (record { workers = workers; fuel = fuel })

-- the bytes of 64 hexadecimal digits
abbrev pub seed_of : List ℕ → Option (List ℕ)
seed_of text = result_ok (decode_sized text 32)

abbrev pub seed_in : List Row → Option (List ℕ)
seed_in rows = option_and_then seed_of (first_of (codes "seed") rows)

-- the version of this number, the second where none is given
abbrev pub version_at : ℕ → Version
version_at n = if n == 1 then One else Two

abbrev pub version_in : List Row → Option Version
version_in rows = option_map version_at (number_or 2 1 2 (first_of (codes "proof") rows))

-- the values of three names, where all are found
pub record Names : Type 0 where
  pub first : List ℕ
  pub second : List ℕ
  pub third : List ℕ

abbrev pub names_in : (first second third : List ℕ) → List Row → Option Names
names_in first second third rows = do
  a ← first_of first rows
  b ← first_of second rows
  c ← first_of third rows
  Some (record { first = a; second = b; third = c })

-- the command of the values of two names, where both are found
abbrev pub two_in : (first second : List ℕ) → (List ℕ → List ℕ → Command) → List Row
    → Option Command
two_in first second command rows = do
  a ← first_of first rows
  b ← first_of second rows
  Some (command a b)

-- `check`, with the names of wires where there is a file of them
abbrev pub check_with : Option (List ℕ) → (r1cs wtns : List ℕ) → Command
check_with None r1cs wtns = check r1cs wtns
check_with (Some names) r1cs wtns = check_named r1cs wtns names

abbrev pub check_in : List Row → Option Command
check_in rows =
    two_in (codes "R1CS") (codes "WTNS") (check_with (first_of (codes "sym") rows)) rows

-- the command of a source, the name of the file that is written, and options
abbrev pub source_in : ((source out : List ℕ) → Options → Command) → List Row → Option Command
source_in command rows = do
  options ← options_in rows
  source ← first_of (codes "SRC") rows
  out ← first_of (codes "OUT") rows
  Some (command source out options)

abbrev pub compile_in : List Row → Option Command
compile_in rows = source_in compile rows

abbrev pub prove_in : List Row → Option Command
prove_in rows = do
  names ← names_in (codes "R1CS") (codes "WTNS") (codes "OUT") rows
  seed ← seed_in rows
  version ← version_in rows
  Some (prove names.first names.second names.third (record { seed = seed; version = version }))

abbrev pub public_in : List Row → Option Command
public_in rows = option_map (λ names. public names.first names.second names.third)
    (names_in (codes "R1CS") (codes "WTNS") (codes "OUT") rows)

abbrev pub audit_in : List Row → Option Command
audit_in rows = option_map (λ names. audit names.first names.second names.third)
    (names_in (codes "R1CS") (codes "PUBLIC") (codes "PROOF") rows)

abbrev pub sym_in : List Row → Option Command
sym_in rows = source_in name_signals rows

abbrev pub determine_in : List Row → Option Command
determine_in rows = two_in (codes "R1CS") (codes "OUT") determine rows

abbrev pub confirm_in : List Row → Option Command
confirm_in rows = two_in (codes "R1CS") (codes "CERT") confirm rows

abbrev pub witness_in : List Row → Option Command
witness_in rows = do
  names ← names_in (codes "SRC") (codes "INPUT") (codes "OUT") rows
  options ← options_in rows
  running ← running_in rows
  Some (witness names.first names.second names.third options running)

abbrev pub batch_in : List Row → Option Command
batch_in rows = do
  names ← names_in (codes "SRC") (codes "INPUTS") (codes "OUT") rows
  options ← options_in rows
  running ← running_in rows
  Some (batch names.first names.second names.third options running)

-- the number of a word that must be given
abbrev pub number_at : (name : List ℕ) → (low high : ℕ) → List Row → Option ℕ
number_at name low high rows = option_and_then (number_in low high) (first_of name rows)

abbrev pub generate_in : List Row → Option Command
generate_in rows = do
  seed ← number_at (codes "SEED") 0 4294967295 rows
  size ← number_at (codes "SIZE") 1 300000 rows
  running ← running_in rows
  Some (generate seed size running)

-- the reading of the words of a form, None where they have none
abbrev pub reading : App → (List Row → Option Command) → List (List ℕ) → Option Command
reading form command words = option_and_then command (found form words)

-- the command that a word names
abbrev pub command_word : List ℕ → Option CommandWord
command_word name =
    if bytes_eq name (codes "check") then Some word.Check
    else (if bytes_eq name (codes "compile") then Some word.Compile
    else (if bytes_eq name (codes "witness") then Some word.Witness
    else (if bytes_eq name (codes "prove") then Some word.Prove
    else (if bytes_eq name (codes "public") then Some word.Public
    else (if bytes_eq name (codes "audit") then Some word.Audit
    else (if bytes_eq name (codes "sym") then Some word.Sym
    else (if bytes_eq name (codes "batch") then Some word.Batch
    else (if bytes_eq name (codes "determine") then Some word.Determine
    else (if bytes_eq name (codes "confirm") then Some word.Confirm
    else (if bytes_eq name (codes "generate") then Some word.Generate
    else None))))))))))

-- the command runs a circuit, and so waits for the threads that do
abbrev pub waits : CommandWord → Bool
waits word.Witness = true
waits word.Batch = true
waits word.Generate = true
waits _ = false

abbrev pub command_in : CommandWord → List Row → Option Command
command_in word.Check = check_in
command_in word.Compile = compile_in
command_in word.Witness = witness_in
command_in word.Prove = prove_in
command_in word.Public = public_in
command_in word.Audit = audit_in
command_in word.Sym = sym_in
command_in word.Batch = batch_in
command_in word.Determine = determine_in
command_in word.Confirm = confirm_in
command_in word.Generate = generate_in

abbrev pub reading_of : List (List ℕ) → CommandWord → Option Command
reading_of words word = reading (form_of word) (command_in word) words

-- the reading of the words, None where they have none
abbrev pub command_of : List (List ℕ) → Option Command
command_of [] = None
command_of (name ∷ others) = option_and_then (reading_of (name ∷ others)) (command_word name)

-- whether the first word names a command that runs a circuit
abbrev pub first_waits : List (List ℕ) → Bool
first_waits [] = false
first_waits (name ∷ others) = option_map_or waits (command_word name) false

-- what the program's own values for options and commands stand for
abbrev pub meant_options : AskedOptions → Options
meant_options o = record { level = o.level; folder = option_map (λ f. f.now) o.folder }

abbrev pub meant_proving : AskedProving → ProveOptions
meant_proving o = record { seed = o.seed; version = o.version }

abbrev pub meant_plain : PlainCommand → Command
meant_plain (plain.Check r1cs wtns) = check r1cs.now wtns.now
meant_plain (plain.CheckNamed r1cs wtns names) = check_named r1cs.now wtns.now names.now
meant_plain (plain.Compile source out options) =
    compile source.now out.now (meant_options options)
meant_plain (plain.Prove r1cs wtns out options) =
    prove r1cs.now wtns.now out.now (meant_proving options)
meant_plain (plain.Public r1cs wtns out) = public r1cs.now wtns.now out.now
meant_plain (plain.Audit r1cs publics proof) = audit r1cs.now publics.now proof.now
meant_plain (plain.Sym source out options) =
    name_signals source.now out.now (meant_options options)
meant_plain (plain.Determine r1cs out) = determine r1cs.now out.now
meant_plain (plain.Confirm r1cs certificate) = confirm r1cs.now certificate.now

abbrev pub meant_circuit : CircuitCommand → Command
meant_circuit (circuit.Witness source input out options running) =
    witness source.now input.now out.now (meant_options options) running
meant_circuit (circuit.Batch source inputs out options running) =
    batch source.now inputs.now out.now (meant_options options) running
meant_circuit (circuit.Generate seed size running) = generate seed size running

abbrev pub meant : Asked → Command
meant (Plain c) = meant_plain c
meant (Circuit c) = meant_circuit c

-- whether it runs a circuit
abbrev pub runs_circuit : Asked → Bool
runs_circuit (Plain c) = false
runs_circuit (Circuit c) = true

-- what the program's own value for three names stands for
abbrev pub meant_names : ThreeNames → Names
meant_names n = record { first = n.first.now; second = n.second.now; third = n.third.now }
