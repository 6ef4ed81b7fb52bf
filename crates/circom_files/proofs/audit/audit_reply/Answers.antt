use Rattle.std.proofs.Common.{◌≡◌, ◌↔◌, Ok}
use Rattle.std.proofs.lemmas.Result.{IfOk-weaker}
use Rattle.out_io.specs.Faults.{Rose}
use Rattle.circom_files.proofs.Accepts.{says_accepted}
use Rattle.circom_files.proofs.Ended.{ended_below, ended_to}
use Rattle.circom_files.proofs.Statuses.{audit_below, below_by}
use Rattle.circom_files.specs.Accepted.{IsAccepted}
use Rattle.out_io.specs.Held.{OfAll}
use Rattle.circom_files.specs.Proving.{Audits}
use Rattle.circom_files.specs.Reply.{Says, audited}
use Rattle.circom_files.specs.Shown.{shown}
use Rattle.circom_files.proofs.audit.audit_reply.Goals as goal

pub returns-in_ok-audited-in-Ok-clause-says : goal.returns-in_ok-audited-in-Ok-clause-says
returns-in_ok-audited-in-Ok-clause-says g c = λ files may.
    (Ok c.in-Ok.verdict, c.in-Ok.ensures.step files may, c.in_ok-audited-in-Ok.ensures)

pub returns-in_ok-audited-in-Ok-clause-status : goal.returns-in_ok-audited-in-Ok-clause-status
returns-in_ok-audited-in-Ok-clause-status g c =
    below_by c.in_ok-audited-in-Ok.field-0 _ c.in_ok-audited-in-Ok.ensures
    (audit_below c.in-Ok.verdict)

pub returns-in-Err-clause-says : goal.returns-in-Err-clause-says
returns-in-Err-clause-says g c =
    ended_to (g.S.Store.may_hold c.verdict_in.new.store) audited
    (λ files found.
    Audits files c.args.r1cs.now c.args.publics.now c.args.proof.now found)
    (Rose (g.S.Store.faults c.args.store.now) (g.S.Store.faults c.verdict_in.new.store))
    c.in-Err.stop c.reply.result c.in-Err.ensures.step c.reply.ensures

pub returns-in-Err-clause-status : goal.returns-in-Err-clause-status
returns-in-Err-clause-status g c = ended_below c.in-Err.stop c.reply.result c.reply.ensures

pub returns-in_ok-audited-in-Ok-clause-accepted : goal.returns-in_ok-audited-in-Ok-clause-accepted
returns-in_ok-audited-in-Ok-clause-accepted g c = λ files may.
    says_accepted files c.args.r1cs.now c.args.publics.now c.args.proof.now
    (shown c.in_ok-audited-in-Ok.field-0)
    (Ok c.in-Ok.verdict, c.in-Ok.ensures.step files may, c.in_ok-audited-in-Ok.ensures)

pub returns-in-Err-clause-accepted : goal.returns-in-Err-clause-accepted
returns-in-Err-clause-accepted g c =
    IfOk-weaker c.reply.result
    (λ r. OfAll (g.S.Store.may_hold c.verdict_in.new.store) (λ files. Says audited
    (λ found. Audits files c.args.r1cs.now c.args.publics.now c.args.proof.now found) (shown r)))
    (λ r. OfAll (g.S.Store.may_hold c.verdict_in.new.store) (λ files.
    (r.status ≡ 0) ↔ IsAccepted files c.args.r1cs.now c.args.publics.now c.args.proof.now))
    (λ r says files may.
    says_accepted files c.args.r1cs.now c.args.publics.now c.args.proof.now (shown r)
    (says files may))
    (returns-in-Err-clause-says g c)
