-- The status of a reply to a command is below 3.
use Rattle.std.proofs.Common.{◌≡◌, ◌<◌, ℕ, List, arith, ap}
use Rattle.cir_determined.specs.declared.rule.Answer.{Answer}
use Rattle.cir_determined.specs.declared.rule.Answer.TheVariants.{Shown, NotShown}
use Rattle.cir_determined.specs.declared.rule.Confirm.{Confirm}
use Rattle.cir_determined.specs.declared.rule.Confirm.TheVariants.{Confirmed, BadRule, Short}
use Rattle.lig_proof.specs.declared.verdict.Verdict.{Verdict as Audited}
use Rattle.lig_proof.specs.declared.verdict.Verdict.TheVariants as audits
use Rattle.circom_lines.specs.Determining.{confirmed_status}
use Rattle.circom_lines.specs.Lines.{verdict_status}
use Rattle.circom_lines.specs.Proving.{audit_status}
use Rattle.circom_lines.specs.declared.answer.Verdict.{Verdict}
use Rattle.circom_lines.specs.declared.answer.Verdict.TheVariants.{CountsDiffer, WireZero}
use Rattle.circom_lines.specs.declared.answer.Verdict.TheVariants.{ConstraintFails, Satisfied}
use Rattle.circom_files.specs.Reply.{Reply, determined, proved, published}
use Rattle.circom_files.specs.Shown.{shown}
use Rattle.circom_files.specs.declared.outcome.Outcome.{Outcome}
use Rattle.circom_files.specs.declared.outcome.Outcome.TheVariants.{Made, Unmade}
use Rattle.circom_files.specs.declared.outcome.Published.{Published}
use Rattle.circom_files.specs.declared.outcome.Published.TheVariants.{Values, Wrong}
use Rattle.circom_files.specs.declared.reply.Reply.{Reply as CodeReply}

pub verdict_below : (v : Verdict) → verdict_status v < 3
verdict_below (CountsDiffer values wires) = omega arith
verdict_below WireZero = omega arith
verdict_below (ConstraintFails index) = omega arith
verdict_below Satisfied = omega arith

pub proved_below : (out : List ℕ) (o : Outcome) → (proved out o).status < 3
proved_below out (Made bytes) = omega arith
proved_below out (Unmade v) = verdict_below v

pub published_below : (out : List ℕ) (o : Published) → (published out o).status < 3
published_below out (Values values) = omega arith
published_below out (Wrong v) = verdict_below v

pub audit_below : (v : Audited) → audit_status v < 3
audit_below audits.Accepted = omega arith
audit_below audits.PublicCount = omega arith
audit_below (audits.Malformed offset) = omega arith
audit_below (audits.BadPath opened) = omega arith
audit_below audits.Proximity = omega arith
audit_below audits.LinearSum = omega arith
audit_below audits.LinearColumn = omega arith
audit_below audits.QuadZero = omega arith
audit_below audits.QuadColumn = omega arith

pub determined_below : (out : List ℕ) (x : Answer) → (determined out x).status < 3
determined_below out (Shown rules) = omega arith
determined_below out (NotShown wire) = omega arith

pub confirmed_below : (x : Confirm) → confirmed_status x < 3
confirmed_below Confirmed = omega arith
confirmed_below (BadRule index) = omega arith
confirmed_below (Short wire) = omega arith

-- so is that of the program's own value
pub below_by : (r : CodeReply) (s : Reply) → shown r ≡ s → s.status < 3 → r.status < 3
below_by r s same below = omega (arith, ap (λ (x : Reply). x.status) same, below)
