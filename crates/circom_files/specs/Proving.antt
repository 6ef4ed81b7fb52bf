-- The commands `prove`, `public` and `audit`.
use Rattle.std.specs.Prelude.{◌≡◌, ◌≢◌, ◌==◌, ℕ, List, length, slice_index, Result, Ok, Err}
use Rattle.std.specs.Prelude.{if◌then◌else◌}
use Rattle.binary_format.specs.Reading.{◌>>=◌}
use Rattle.out_io.specs.Contents.{Contents}
use Rattle.iden_files.specs.File.{File}
use Rattle.iden_files.specs.ReadR1cs.{r1cs_of}
use Rattle.lig_layout.specs.Layout.{vectors_of}
use Rattle.lig_layout.specs.Laws.{publics_of}
use Rattle.lig_proof.specs.Acceptance.{IsVerdict}
use Rattle.lig_proof.specs.Proving.{AreMade}
use Rattle.lig_proof.specs.declared.verdict.Verdict.{Verdict as Audited}
use Rattle.circom_words.specs.Words.{ProveOptions}
use Rattle.circom_lines.specs.declared.answer.Refusal.{Refusal}
use Rattle.circom_lines.specs.declared.answer.Verdict.TheVariants.{CountsDiffer, WireZero}
use Rattle.circom_lines.specs.declared.answer.Verdict.TheVariants.{Satisfied}
use Rattle.circom_files.specs.Check.{verdict}
use Rattle.circom_files.specs.Files.{bytes_in, accepted, r1cs_in, wtns_in, publics_in}
use Rattle.circom_files.specs.declared.outcome.Witness.{Witness}
use Rattle.circom_files.specs.declared.outcome.Offer.{Offer}
use Rattle.circom_files.specs.declared.outcome.Outcome.{Outcome}
use Rattle.circom_files.specs.declared.outcome.Outcome.TheVariants.{Made, Unmade}
use Rattle.circom_files.specs.declared.outcome.Published.{Published}
use Rattle.circom_files.specs.declared.outcome.Published.TheVariants.{Values, Wrong}

-- a command found this in what it read; or what it read is refused
abbrev pub FoundIn : {X Y : Type 0} → (X → Y → Type 0) → Result X Refusal → Result Y Refusal
    → Type 0
FoundIn Finds (Ok x) (Ok y) = Finds x y
FoundIn Finds (Ok x) (Err refusal) = ⊥
FoundIn Finds (Err refusal) (Ok y) = ⊥
FoundIn Finds (Err refusal) (Err found) = refusal ≡ found

-- the files of `prove`, in the order of the words
unfoldable pub witness_of : Contents → (r1cs wtns : List ℕ) → Result Witness Refusal
witness_of files r1cs wtns = do
  bytes ← bytes_in files r1cs
  file ← accepted r1cs (r1cs_of bytes)
  values ← wtns_in files wtns
  Ok (record { bytes = bytes; file = file; values = values })

-- the proof in the version and with the seed of the options, where the values satisfy the file
abbrev pub IsProved : ProveOptions → Witness → Outcome → Type 0
IsProved options w (Made proof) =
    (verdict w.file w.values ≡ Satisfied)
    × AreMade options.version w.bytes w.file (vectors_of w.file w.values) options.seed proof
IsProved options w (Unmade found) = (verdict w.file w.values ≡ found) × (found ≢ Satisfied)

abbrev pub Proves : Contents → (r1cs wtns : List ℕ) → ProveOptions → Result Outcome Refusal
    → Type 0
Proves files r1cs wtns options found = FoundIn (IsProved options) (witness_of files r1cs wtns) found

-- the public values, by the count of values, then wire 0
abbrev pub published_values : File → List ℕ → Published
published_values file values =
    if length values == file.wires
    then (if slice_index values 0 == 1 then Values (publics_of file values) else Wrong WireZero)
    else Wrong (CountsDiffer (length values) file.wires)

unfoldable pub public_of : Contents → (r1cs wtns : List ℕ) → Result Published Refusal
public_of files r1cs wtns = do
  file ← r1cs_in files r1cs
  values ← wtns_in files wtns
  Ok (published_values file values)

-- the files of `audit`, in the order of the words
unfoldable pub offer_of : Contents → (r1cs publics proof : List ℕ) → Result Offer Refusal
offer_of files r1cs publics proof = do
  bytes ← bytes_in files r1cs
  file ← accepted r1cs (r1cs_of bytes)
  values ← publics_in files publics
  offered ← bytes_in files proof
  Ok (record { bytes = bytes; file = file; publics = values; proof = offered })

-- the verdict on what is offered as a proof
abbrev pub IsAudited : Offer → Audited → Type 0
IsAudited o found = IsVerdict o.bytes o.file o.publics o.proof found

abbrev pub Audits : Contents → (r1cs publics proof : List ℕ) → Result Audited Refusal → Type 0
Audits files r1cs publics proof found = FoundIn IsAudited (offer_of files r1cs publics proof) found
