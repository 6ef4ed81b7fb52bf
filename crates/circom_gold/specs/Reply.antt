-- The reply of the program to the words, over the files.
use Rattle.std.specs.Prelude.{◌≡◌, ◌⊎◌, ℕ, List, length, Option, Some, None}
use Rattle.out_io.specs.Contents.{Contents}
use Rattle.iden_files.specs.File.{File}
use Rattle.iden_files.specs.Spelling.{r1cs_bytes}
use Rattle.circom_lines.specs.Lines.{compiled_line}
use Rattle.circom_words.specs.Words.{Command, check, check_named, compile, witness, prove}
use Rattle.circom_words.specs.Words.{public, audit, name_signals, batch, confirm, determine}
use Rattle.circom_words.specs.Words.{generate}
use Rattle.circom_files.specs.Check.{check_of}
use Rattle.circom_files.specs.Determining.{Confirms, Searches, WritesRules}
use Rattle.circom_named.specs.Named.{check_named_of}
use Rattle.circom_files.specs.Proving.{Audits, Proves, public_of}
use Rattle.circom_files.specs.Reply.{Reply, Says, audited, checked, checked_by_name, confirmed}
use Rattle.circom_files.specs.Reply.{determined, proved, published, usage, written}
use Rattle.circom_files.specs.Running.{witnessed, generated}
use Rattle.circom_gold.specs.Batch.{Batches, batched}
use Rattle.circom_gold.specs.Compile.{CompilesTo}
use Rattle.circom_gold.specs.Symbols.{NamesTo, names_written}
use Rattle.circom_gold.specs.Witness.{Witnesses, Generates}

-- the file of constraints is written under the name
abbrev pub constraints_written : List ℕ → File → Reply
constraints_written out f = written (compiled_line f.wires (length f.constraints)) out
    (r1cs_bytes f)

-- the reply answers the command over these files
abbrev pub Answers : Contents → Option Command → Reply → Type 0
Answers files None = λ r. r ≡ usage
Answers files (Some (check r1cs wtns)) = Says checked (λ found. check_of files r1cs wtns ≡ found)
Answers files (Some (check_named r1cs wtns names)) =
    Says checked_by_name (λ found. check_named_of files r1cs wtns names ≡ found)
Answers files (Some (compile source out options)) =
    Says (constraints_written out) (λ found. CompilesTo files source options found)
Answers files (Some (witness source input out options running)) =
    Says (witnessed out) (λ found. Witnesses files source input options running.fuel found)
Answers files (Some (prove r1cs wtns out options)) =
    Says (proved out) (λ found. Proves files r1cs wtns options found)
Answers files (Some (public r1cs wtns out)) =
    Says (published out) (λ found. public_of files r1cs wtns ≡ found)
Answers files (Some (audit r1cs publics proof)) =
    Says audited (λ found. Audits files r1cs publics proof found)
Answers files (Some (name_signals source out options)) =
    Says (names_written out) (λ found. NamesTo files source options found)
Answers files (Some (batch source inputs out options running)) =
    Says (batched out) (λ found. Batches files source inputs options running.fuel found)
Answers files (Some (determine r1cs out)) =
    Says (determined out) (λ found. Searches files r1cs found)
Answers files (Some (confirm r1cs certificate)) =
    Says confirmed (λ found. Confirms files r1cs certificate found)
Answers files (Some (generate seed size running)) =
    Says (generated size) (λ found. Generates seed size running.fuel found)

-- two replies to `determine` are the same but for which rules they write, if they write some
pub record AreAlike (files : Contents) (r1cs out : List ℕ) (a b : Reply) : Type 0 where
  pub status : a.status ≡ b.status
  pub text : a.text ≡ b.text
  pub file : (a.file ≡ b.file) ⊎ (WritesRules files r1cs out a × WritesRules files r1cs out b)

-- two replies to a command are one
abbrev pub AreOne : Option Command → Contents → Reply → Reply → Type 0
AreOne (Some (determine r1cs out)) files a b = AreAlike files r1cs out a b
AreOne _ files a b = a ≡ b
