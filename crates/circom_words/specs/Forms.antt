-- The commands as `clap` sees them: simple commands without subcommands.
use Rattle.std.specs.Prelude.{ℕ, List, Some, true, codes}
use Rattle.clap.specs.Simple.{App, new_app, new_rule, with_rule}
use Rattle.clap.specs.Walk.{Rule}
use Rattle.clap.specs.declared.builder.action.ArgAction.TheVariants.{SetTrue}
use Rattle.circom_words.specs.declared.names.CommandWord.{CommandWord}
use Rattle.circom_words.specs.declared.names.CommandWord.TheVariants as word

-- a word that must be given
abbrev pub given : List ℕ → Rule
given name = record (new_rule name) { required = true }

-- `-l DIR`
abbrev pub folder : Rule
folder = record (new_rule (codes "DIR")) { short = Some 108 }

-- `--NAME`, without a value
abbrev pub flag : List ℕ → Rule
flag name = record (new_rule name) { long = Some name; action = Some SetTrue }

-- `--NAME VALUE`
abbrev pub valued : List ℕ → Rule
valued name = record (new_rule name) { long = Some name }

-- `--seed HEX`, which must be given
abbrev pub seed : Rule
seed = record (valued (codes "seed")) { required = true }

-- a command with two names, and with three
abbrev pub two_form : (command first second : List ℕ) → App
two_form command first second = with_rule (with_rule (new_app command) (given first)) (given second)

abbrev pub three_form : (command first second third : List ℕ) → App
three_form command first second third = with_rule (two_form command first second) (given third)

-- `[--O0, --O1 or --O2] [-l DIR]`
abbrev pub with_levels : App → App
with_levels form =
    with_rule (with_rule (with_rule form (flag (codes "O0"))) (flag (codes "O1")))
    (flag (codes "O2"))

abbrev pub with_options : App → App
with_options form = with_rule (with_levels form) folder

-- `[--workers N] [--fuel N]`
abbrev pub with_running : App → App
with_running form = with_rule (with_rule form (valued (codes "workers"))) (valued (codes "fuel"))

-- `check R1CS WTNS [--sym SYM]`
unfoldable pub check_form : App
check_form =
    with_rule (two_form (codes "check") (codes "R1CS") (codes "WTNS")) (valued (codes "sym"))

-- `compile SRC OUT [--O0, --O1 or --O2] [-l DIR]`
unfoldable pub compile_form : App
compile_form = with_options (two_form (codes "compile") (codes "SRC") (codes "OUT"))

-- `prove R1CS WTNS OUT --seed HEX [--proof 1 or 2]`
abbrev pub with_seed : App
with_seed =
    with_rule (three_form (codes "prove") (codes "R1CS") (codes "WTNS") (codes "OUT")) seed

unfoldable pub prove_form : App
prove_form = with_rule with_seed (valued (codes "proof"))

-- `public R1CS WTNS OUT`
unfoldable pub public_form : App
public_form = three_form (codes "public") (codes "R1CS") (codes "WTNS") (codes "OUT")

-- `audit R1CS PUBLIC PROOF`
unfoldable pub audit_form : App
audit_form = three_form (codes "audit") (codes "R1CS") (codes "PUBLIC") (codes "PROOF")

-- `sym SRC OUT [--O0, --O1 or --O2] [-l DIR]`
unfoldable pub sym_form : App
sym_form = with_options (two_form (codes "sym") (codes "SRC") (codes "OUT"))

-- `determine R1CS OUT`
unfoldable pub determine_form : App
determine_form = two_form (codes "determine") (codes "R1CS") (codes "OUT")

-- `confirm R1CS CERT`
unfoldable pub confirm_form : App
confirm_form = two_form (codes "confirm") (codes "R1CS") (codes "CERT")

-- `witness SRC INPUT OUT [--O0, --O1 or --O2] [-l DIR] [--workers N] [--fuel N]`
unfoldable pub witness_form : App
witness_form =
    with_running
    (with_options (three_form (codes "witness") (codes "SRC") (codes "INPUT") (codes "OUT")))

-- `batch SRC INPUTS OUT [--O0, --O1 or --O2] [-l DIR] [--workers N] [--fuel N]`
unfoldable pub batch_form : App
batch_form =
    with_running
    (with_options (three_form (codes "batch") (codes "SRC") (codes "INPUTS") (codes "OUT")))

-- `generate SEED SIZE [--workers N] [--fuel N]`
unfoldable pub generate_form : App
generate_form = with_running (two_form (codes "generate") (codes "SEED") (codes "SIZE"))

abbrev pub form_of : CommandWord → App
form_of word.Check = check_form
form_of word.Compile = compile_form
form_of word.Witness = witness_form
form_of word.Prove = prove_form
form_of word.Public = public_form
form_of word.Audit = audit_form
form_of word.Sym = sym_form
form_of word.Batch = batch_form
form_of word.Determine = determine_form
form_of word.Confirm = confirm_form
form_of word.Generate = generate_form
