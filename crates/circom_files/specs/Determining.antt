-- The commands `determine` and `confirm`: certificates that the inputs of a file of constraints
-- determine its outputs.
use Rattle.std.specs.Prelude.{◌≡◌, ◌+◌, ◌*◌, ◌≤◌, ℕ, List, length, Some}
use Rattle.std.specs.Prelude.{Result, Ok, ⊤}
use Rattle.binary_format.specs.Reading.{◌>>=◌}
use Rattle.out_io.specs.Contents.{Contents}
use Rattle.iden_files.specs.File.{File}
use Rattle.iden_files.specs.ReadR1cs.{r1cs_of}
use Rattle.cir_determined.specs.Certificate.{IsAnswer, IsCertificate, IsVerdict}
use Rattle.cir_determined.specs.Circuit.{Circuit, in_normal_form}
use Rattle.cir_determined.specs.Determined.{Determines}
use Rattle.cir_determined.specs.Text.{rules_of, rules_text}
use Rattle.cir_determined.specs.declared.rule.Answer.{Answer}
use Rattle.cir_determined.specs.declared.rule.Answer.TheVariants.{Shown, NotShown}
use Rattle.cir_determined.specs.declared.rule.Confirm.{Confirm}
use Rattle.cir_determined.specs.declared.rule.Rule.{Rule}
use Rattle.circom_lines.specs.declared.answer.Refusal.{Refusal}
use Rattle.circom_files.specs.Files.{accepted, bytes_in, r1cs_in, rules_in}
use Rattle.circom_files.specs.Proving.{FoundIn}
use Rattle.circom_files.specs.Reply.{Reply}
use Rattle.circom_files.specs.declared.outcome.Claim.{Claim}

-- the circuit that the file's constraints are
abbrev pub circuit_of : File → Circuit
circuit_of f = record {
  constraints = f.constraints;
  wires = f.wires;
  outputs = f.outputs;
  inputs = f.public_inputs + f.private_inputs;
}

-- the rules show that the file's inputs determine its outputs
abbrev pub AreCertificate : File → List Rule → Type 0
AreCertificate f rules = IsCertificate (in_normal_form (circuit_of f)) rules

-- such rules, or the least output that no rules make known
abbrev pub IsSearched : File → Answer → Type 0
IsSearched f found = IsAnswer (in_normal_form (circuit_of f)) found

abbrev pub Searches : Contents → (r1cs : List ℕ) → Result Answer Refusal → Type 0
Searches files r1cs found = FoundIn IsSearched (r1cs_in files r1cs) found

-- the text of the rules, if there are some and not too many, is read as they are
abbrev pub IsReadBack : Answer → Type 0
IsReadBack (Shown rules) =
    length rules.items ≤ 4194304 → rules_of (rules_text rules.items) ≡ Ok rules.items
IsReadBack (NotShown wire) = ⊤

-- the files of `confirm`, in the order of the words
unfoldable pub claim_of : Contents → (r1cs certificate : List ℕ) → Result Claim Refusal
claim_of files r1cs certificate = do
  bytes ← bytes_in files r1cs
  file ← accepted r1cs (r1cs_of bytes)
  rules ← rules_in files certificate
  Ok (record { file = file; rules = rules })

-- what the rules are worth for the file
abbrev pub IsConfirmed : Claim → Confirm → Type 0
IsConfirmed c found = IsVerdict (in_normal_form (circuit_of c.file)) c.rules found

abbrev pub Confirms : Contents → (r1cs certificate : List ℕ)
    → Result Confirm Refusal → Type 0
Confirms files r1cs certificate found = FoundIn IsConfirmed (claim_of files r1cs certificate) found

-- there are such rules for the file under the name
pub record HasCertificate (files : Contents) (r1cs : List ℕ) : Type 0 where
  pub file : File
  pub read : r1cs_in files r1cs ≡ Ok file
  pub rules : List Rule
  pub certificate : AreCertificate file rules

-- the bytes are the text of such rules
pub record IsCertificateOf (files : Contents) (r1cs bytes : List ℕ) : Type 0 where
  pub file : File
  pub read : r1cs_in files r1cs ≡ Ok file
  pub rules : List Rule
  pub text : rules_of bytes ≡ Ok rules
  pub certificate : AreCertificate file rules

-- the rules under the one name are such rules for the file under the other
pub record HoldsCertificate (files : Contents) (r1cs certificate : List ℕ) : Type 0 where
  pub claim : Claim
  pub read : claim_of files r1cs certificate ≡ Ok claim
  pub confirmed : AreCertificate claim.file claim.rules

-- the inputs of the file under the name determine its outputs
pub record HasDetermined (files : Contents) (r1cs : List ℕ) : Type 0 where
  pub file : File
  pub read : r1cs_in files r1cs ≡ Ok file
  pub determined : Determines (circuit_of file)

-- the reply writes such bytes under the name
pub record WritesCertificate (files : Contents) (r1cs out : List ℕ) (r : Reply) : Type 0 where
  pub bytes : List ℕ
  pub file : r.file ≡ Some (record { name = out; bytes = bytes })
  pub certificate : IsCertificateOf files r1cs bytes

-- the reply writes the text of at most two such rules a wire under the name
pub record WritesRules (files : Contents) (r1cs out : List ℕ) (r : Reply) : Type 0 where
  pub file : File
  pub read : r1cs_in files r1cs ≡ Ok file
  pub rules : List Rule
  pub certificate : AreCertificate file rules
  pub few : length rules ≤ 2 * file.wires
  pub written : r.file ≡ Some (record { name = out; bytes = rules_text rules })
