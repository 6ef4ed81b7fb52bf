-- What the status of each command means, and what the command leaves in the files.
use Rattle.std.specs.Prelude.{◌≡◌, ◌↔◌, ℕ, List, Ok, IsSomeAnd}
use Rattle.out_io.specs.Contents.{Contents}
use Rattle.iden_files.specs.File.{File}
use Rattle.lig_layout.specs.Laws.{publics_of}
use Rattle.wit_input.specs.Publics.{publics_text}
use Rattle.cir_compile.specs.Compiled.{IsCompiled}
use Rattle.circom_lines.specs.Symbols.{named_line}
use Rattle.circom_lines.specs.declared.answer.Verdict.TheVariants.{ConstraintFails}
use Rattle.circom_words.specs.Words.{Command, check, check_named, compile, witness, prove}
use Rattle.circom_words.specs.Words.{public, audit, name_signals, batch, confirm, determine}
use Rattle.circom_words.specs.Words.{generate}
use Rattle.circom_files.specs.Accepted.{IsAccepted, IsProofOf}
use Rattle.circom_files.specs.Determining.{HasCertificate, HasDetermined, HoldsCertificate}
use Rattle.circom_files.specs.Determining.{IsCertificateOf}
use Rattle.circom_named.specs.Named.{described_of, failing_names}
use Rattle.circom_files.specs.Proving.{witness_of}
use Rattle.circom_files.specs.Running.{halted}
use Rattle.circom_files.specs.Satisfaction.{FailsFirstAt, IsAssignment, Satisfies}
use Rattle.circom_named.specs.declared.described.Described.{Described}
use Rattle.circom_files.specs.declared.outcome.Halt.{Halt}
use Rattle.circom_files.specs.declared.outcome.Ran.TheVariants.{Halted}
use Rattle.circom_files.specs.declared.outcome.Witness.{Witness}
use Rattle.circom_gold.specs.Batch.{HasBatch, IsBatchOf}
use Rattle.circom_gold.specs.Compile.{AreConstraintsOf, task_of}
use Rattle.circom_gold.specs.Symbols.{AreNamesIn}
use Rattle.circom_gold.specs.Witness.{HasGenerated, HasWitness, IsWitnessOf, IsWitnessed}

-- the files under the two names are read as constraints and as values, of which this holds
pub record AreRead (P : File → List ℕ → Type 0) (files : Contents) (r1cs wtns : List ℕ)
    : Type 0 where
  pub witness : Witness
  pub read : witness_of files r1cs wtns ≡ Ok witness
  pub so : P witness.file witness.values

-- the files under the three names are read as constraints, as values that satisfy them, and as
-- names of wires
pub record AreSatisfied (files : Contents) (r1cs wtns names : List ℕ) : Type 0 where
  pub described : Described
  pub read : described_of files r1cs wtns names ≡ Ok described
  pub so : Satisfies described.witness.file described.witness.values

-- the text is the line of the first constraint that fails, with the names of its wires
pub record NamesFailing (d : Described) (k exit : ℕ) (text : List ℕ) : Type 0 where
  pub status : exit ≡ 2
  pub line : text
      ≡ named_line k (failing_names d.witness.file d.lines (ConstraintFails k))

-- the bytes are the text of the public values among these values
pub record ArePublicsOf (files : Contents) (r1cs wtns bytes : List ℕ) : Type 0 where
  pub witness : Witness
  pub read : witness_of files r1cs wtns ≡ Ok witness
  pub text : bytes ≡ publics_text (publics_of witness.file witness.values)

-- What the status of a command means, where it isn't 3, by the files before the command, the files
-- after it, the status and what was put.
abbrev pub Means : Command → (files after : Contents) → (exit : ℕ) → (text : List ℕ) → Type 0
-- 0 exactly where the values satisfy the constraints
Means (check r1cs wtns) files after exit text =
    (exit ≡ 0) ↔ AreRead Satisfies files r1cs wtns
-- 0 exactly where the values satisfy the constraints and the names are read; where a constraint is
-- the first that fails, the names of its wires are put
Means (check_named r1cs wtns names) files after exit text =
    ((exit ≡ 0) ↔ AreSatisfied files r1cs wtns names)
    × ((d : Described) (k : ℕ) → described_of files r1cs wtns names ≡ Ok d
    → FailsFirstAt d.witness.file d.witness.values k → NamesFailing d k exit text)
-- 0 exactly where the source compiles; the constraints that it compiles to are under OUT then
Means (compile source out options) files after exit text =
    ((exit ≡ 0) ↔ ((file : File) × IsCompiled files (task_of source options) file))
    × (exit ≡ 0 → IsSomeAnd (after out) (AreConstraintsOf files source options))
-- 0 exactly where the source compiles, the input is read, and the run doesn't stop; the values of
-- the run are under OUT then, whatever the number of workers. Where the run stops, what is put is
-- its log lines, and why and where it stops first.
Means (witness source input out options running) files after exit text =
    ((exit ≡ 0) ↔ HasWitness files source input options running.fuel)
    × (exit ≡ 0 → IsSomeAnd (after out) (IsWitnessOf files source input options running.fuel))
    × ((h : Halt) → IsWitnessed files source input options running.fuel (Halted h)
    → (exit ≡ 1) × (text ≡ (halted h).text))
-- 0 exactly where the values satisfy the constraints; a proof that is accepted is under OUT then
Means (prove r1cs wtns out options) files after exit text =
    ((exit ≡ 0) ↔ AreRead Satisfies files r1cs wtns)
    × (exit ≡ 0 → IsSomeAnd (after out) (IsProofOf files r1cs wtns))
-- 0 exactly where each wire has a value, and wire 0 the value 1; the public ones are under OUT then
Means (public r1cs wtns out) files after exit text =
    ((exit ≡ 0) ↔ AreRead IsAssignment files r1cs wtns)
    × (exit ≡ 0 → IsSomeAnd (after out) (ArePublicsOf files r1cs wtns))
-- 0 exactly where the proof is accepted
Means (audit r1cs publics proof) files after exit text =
    (exit ≡ 0) ↔ IsAccepted files r1cs publics proof
-- 0 exactly where the source compiles; the lines that name its signals are under OUT then
Means (name_signals source out options) files after exit text =
    ((exit ≡ 0) ↔ ((file : File) × IsCompiled files (task_of source options) file))
    × (exit ≡ 0 → IsSomeAnd (after out) (AreNamesIn files source options))
-- 0 exactly where the source compiles, the inputs are there, and they don't count more than a batch
-- may; the items of their lines are under OUT then, each that of its line alone
Means (batch source inputs out options running) files after exit text =
    ((exit ≡ 0) ↔ HasBatch files source inputs options running.fuel)
    × (exit ≡ 0 → IsSomeAnd (after out) (IsBatchOf files source inputs options running.fuel))
-- 0 exactly where there are rules that show that the inputs determine the outputs; such rules are
-- under OUT then
Means (determine r1cs out) files after exit text =
    ((exit ≡ 0) ↔ HasCertificate files r1cs)
    × (exit ≡ 0 → IsSomeAnd (after out) (IsCertificateOf files r1cs))
-- 0 exactly where these rules show it; the inputs determine the outputs then
Means (confirm r1cs certificate) files after exit text =
    ((exit ≡ 0) ↔ HoldsCertificate files r1cs certificate)
    × (exit ≡ 0 → HasDetermined files r1cs)
-- 0 exactly where the run of the circuit ends; its values satisfy its constraints then
Means (generate seed size running) files after exit text =
    (exit ≡ 0) ↔ HasGenerated seed size running.fuel
