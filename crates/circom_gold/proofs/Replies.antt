-- The replies of commands, their files and their statuses.
use Rattle.std.proofs.Common.{◌≡◌, ◌<◌, ◌∙◌, ℕ, List, length, Option, Some, None}
use Rattle.std.proofs.Common.{Ok, refl, sym}
use Rattle.std.proofs.Common.{ap, inr, arith}
use Rattle.std.proofs.Math.Seq.{take-length}
use Rattle.out_io.specs.Contents.{Contents}
use Rattle.iden_files.specs.File.{File}
use Rattle.iden_files.specs.ReadR1cs.{r1cs_of}
use Rattle.iden_files.specs.Spelling.{r1cs_bytes}
use Rattle.circom_words.specs.Words.{Command, Options}
use Rattle.circom_files.specs.Given.{Leaves, LeavesInPart}
use Rattle.circom_files.specs.Reply.{Reply, NewFile}
use Rattle.circom_files.specs.Running.{witnessed, generated}
use Rattle.circom_files.specs.declared.outcome.Ran.{Ran}
use Rattle.circom_files.specs.declared.outcome.Ran.TheVariants.{Ended, Halted}
use Rattle.circom_files.specs.declared.outcome.Generated.{Generated}
use Rattle.circom_files.specs.declared.outcome.Generated.TheVariants as made
use Rattle.circom_gold.specs.Answering.{Fits, WritesConstraintsOf}
use Rattle.circom_gold.specs.Compile.{CompilesTo}
use Rattle.circom_gold.specs.Reply.{constraints_written}

-- the reply of a source that compiles writes a file of its constraints
pub writes : (files : Contents) (source : List ℕ) (options : Options) (out : List ℕ) (f : File)
    (r : Reply) → CompilesTo files source options (Ok f) → r ≡ constraints_written out f
    → r1cs_of (r1cs_bytes f) ≡ Ok f → WritesConstraintsOf files source options out r
writes files source options out f r compiles is read = record {
  bytes = r1cs_bytes f;
  file = ap (λ (x : Reply). x.file) is;
  constraints = record {
    file = f;
    read = read;
    compiled = compiles;
    exactly = λ values are.
        let means = compiles.written.means values are in (
          (λ holds. let s = means.0 holds in (s.0, s.1.agrees, s.2)),
          (λ found. means.1 (found.0, record { agrees = found.1 }, found.2)),
        );
  };
}

-- a file that is written whole is written in part
pub in_part : (file : Option NewFile) (files after : Contents) → Leaves file files after
    → LeavesInPart file files after
in_part None files after same = same
in_part (Some f) files after r = record {
  here = inr (length f.bytes, r.here ∙ ap Some (sym (take-length f.bytes)));
  others = r.others;
}

-- the replies of the commands that run a circuit have a status below 3
pub witnessed_below : (out : List ℕ) (x : Ran) → (witnessed out x).status < 3
witnessed_below out (Ended values log) = omega arith
witnessed_below out (Halted h) = omega arith

pub generated_below : (links : ℕ) (x : Generated) → (generated links x).status < 3
generated_below links (made.Ended wires constraints o log) = omega arith
generated_below links (made.Halted h) = omega arith

-- a status of 64 is that of words without a reading
pub usage_alone : (command : Option Command) (r : Reply) → Fits command r → r.status ≡ 64
    → command ≡ None
usage_alone None r fits is = refl
usage_alone (Some command) r fits is = absurd (omega (arith, fits, is))

-- no reply has the status 3
pub no_fault_status : (command : Option Command) (r : Reply) → Fits command r → r.status ≡ 3
    → ⊥
no_fault_status None r fits is = omega (arith, ap (λ (x : Reply). x.status) fits, is)
no_fault_status (Some command) r fits is = omega (arith, fits, is)

-- the reply to words without a reading has no file
pub usage_file : (command : Option Command) (r : Reply) → Fits command r → command ≡ None
    → r.file ≡ None
usage_file None r fits none = ap (λ (x : Reply). x.file) fits
usage_file (Some c) r fits none = let bad : ⊥ = cc in absurd bad
