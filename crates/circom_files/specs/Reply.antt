-- The replies to commands over files of constraints and values.
use Rattle.std.specs.Prelude.{◌≡◌, ℕ, List, length, Option, Some, None, Result, Ok, Err}
use Rattle.cir_determined.specs.Text.{rules_text}
use Rattle.cir_determined.specs.declared.rule.Answer.{Answer}
use Rattle.cir_determined.specs.declared.rule.Answer.TheVariants.{Shown, NotShown}
use Rattle.cir_determined.specs.declared.rule.Confirm.{Confirm}
use Rattle.lig_proof.specs.declared.verdict.Verdict.{Verdict as Audited}
use Rattle.wit_input.specs.Publics.{publics_text}
use Rattle.circom_lines.specs.Determining.{confirmed_line, confirmed_status, determined_line}
use Rattle.circom_lines.specs.Determining.{undetermined_line}
use Rattle.circom_lines.specs.Lines.{usage_line, fault_line, refusal_line, verdict_status}
use Rattle.circom_lines.specs.Lines.{verdict_line}
use Rattle.circom_lines.specs.Symbols.{named_line, symbols_line}
use Rattle.circom_lines.specs.Proving.{proved_line, public_line, audit_status, audit_line}
use Rattle.circom_lines.specs.declared.answer.Refusal.{Refusal}
use Rattle.circom_lines.specs.declared.answer.Verdict.{Verdict}
use Rattle.circom_lines.specs.declared.answer.Verdict.TheVariants.{ConstraintFails}
use Rattle.circom_files.specs.declared.outcome.Named.{Named}
use Rattle.circom_files.specs.declared.outcome.Outcome.{Outcome}
use Rattle.circom_files.specs.declared.outcome.Outcome.TheVariants.{Made, Unmade}
use Rattle.circom_files.specs.declared.outcome.Published.{Published}
use Rattle.circom_files.specs.declared.outcome.Published.TheVariants.{Values, Wrong}

-- a file that is written
pub record NewFile : Type 0 where
  pub name : List ℕ
  pub bytes : List ℕ

-- the exit status, all that is put, and the file that is written, if any
pub record Reply : Type 0 where
  pub status : ℕ
  pub text : List ℕ
  pub file : Option NewFile

-- the reply to words without a reading
abbrev pub usage : Reply
usage = record { status = 64; text = usage_line; file = None }

-- what is said where the store failed
abbrev pub store_failed : Reply
store_failed = record { status = 3; text = fault_line; file = None }

abbrev pub refused : Refusal → Reply
refused refusal = record { status = 1; text = refusal_line refusal; file = None }

abbrev pub checked : Verdict → Reply
checked verdict = record {
  status = verdict_status verdict;
  text = verdict_line verdict;
  file = None;
}

-- the same, and where a constraint fails, the names of its wires
abbrev pub text_by_name : Verdict → (names : List (List ℕ)) → List ℕ
text_by_name (ConstraintFails index) names = named_line index names
text_by_name verdict names = verdict_line verdict

abbrev pub checked_by_name : Named → Reply
checked_by_name found = record {
  status = verdict_status found.verdict;
  text = text_by_name found.verdict found.names;
  file = None;
}

-- success, with this line, and a file under the name
abbrev pub written : (text out bytes : List ℕ) → Reply
written text out bytes = record {
  status = 0;
  text = text;
  file = Some (record { name = out; bytes = bytes });
}

-- so many lines that name signals are written under the name
abbrev pub symbols_written : List ℕ → (lines : ℕ) → (text : List ℕ) → Reply
symbols_written out lines text = written (symbols_line lines) out text

-- the proof is written under the name
abbrev pub proved : List ℕ → Outcome → Reply
proved out (Made bytes) = written (proved_line (length bytes)) out bytes
proved out (Unmade verdict) = checked verdict

-- the public values are written under the name
abbrev pub published : List ℕ → Published → Reply
published out (Values values) = written (public_line (length values)) out (publics_text values)
published out (Wrong verdict) = checked verdict

abbrev pub audited : Audited → Reply
audited verdict = record {
  status = audit_status verdict;
  text = audit_line verdict;
  file = None;
}

-- the rules are written under the name
abbrev pub determined : List ℕ → Answer → Reply
determined out (Shown rules) = written determined_line out (rules_text rules.items)
determined out (NotShown wire) = record {
  status = 2;
  text = undetermined_line wire;
  file = None;
}

abbrev pub confirmed : Confirm → Reply
confirmed found = record {
  status = confirmed_status found;
  text = confirmed_line found;
  file = None;
}

-- what a command found as its reply, or its refusal
abbrev pub said : {X : Type 0} → (X → Reply) → Result X Refusal → Reply
said reply (Ok x) = reply x
said reply (Err refusal) = refused refusal

-- the reply says what the command finds
abbrev pub Says : {X : Type 0} → (X → Reply) → (Result X Refusal → Type 0) → Reply
    → Type 0
Says {X} reply Finds r = (found : Result X Refusal) × Finds found × (r ≡ said reply found)
