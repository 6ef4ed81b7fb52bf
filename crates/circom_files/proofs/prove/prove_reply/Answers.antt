use Rattle.std.proofs.Common.{Ok}
use Rattle.out_io.specs.Faults.{Rose}
use Rattle.circom_words.specs.Words.{meant_proving}
use Rattle.circom_files.proofs.Accepts.{unsuccessful, writes_proof}
use Rattle.circom_files.proofs.Ended.{ended_below, ended_to}
use Rattle.circom_files.proofs.Statuses.{below_by, proved_below}
use Rattle.circom_files.specs.Proving.{Proves}
use Rattle.circom_files.specs.Reply.{proved}
use Rattle.circom_files.specs.Shown.{shown}
use Rattle.circom_files.proofs.prove.prove_reply.Goals as goal

pub returns-in_ok-proved-in-Ok-clause-says : goal.returns-in_ok-proved-in-Ok-clause-says
returns-in_ok-proved-in-Ok-clause-says g c = λ files may.
    (Ok c.in-Ok.outcome, c.in-Ok.ensures.step files may, c.in_ok-proved-in-Ok.ensures)

pub returns-in_ok-proved-in-Ok-clause-status : goal.returns-in_ok-proved-in-Ok-clause-status
returns-in_ok-proved-in-Ok-clause-status g c =
    below_by c.in_ok-proved-in-Ok.field-0 _ c.in_ok-proved-in-Ok.ensures
    (proved_below c.args.out.now c.in-Ok.outcome)

pub returns-in-Err-clause-says : goal.returns-in-Err-clause-says
returns-in-Err-clause-says g c =
    ended_to (g.S.Store.may_hold c.outcome_in.new.store) (proved c.args.out.now)
    (λ files found.
    Proves files c.args.r1cs.now c.args.wtns.now (meant_proving c.args.options) found)
    (Rose (g.S.Store.faults c.args.store.now) (g.S.Store.faults c.outcome_in.new.store))
    c.in-Err.stop c.reply.result c.in-Err.ensures.step c.reply.ensures

pub returns-in-Err-clause-status : goal.returns-in-Err-clause-status
returns-in-Err-clause-status g c = ended_below c.in-Err.stop c.reply.result c.reply.ensures

pub returns-in_ok-proved-in-Ok-clause-accepted : goal.returns-in_ok-proved-in-Ok-clause-accepted
returns-in_ok-proved-in-Ok-clause-accepted g c = λ files may zero.
    writes_proof files c.args.r1cs.now c.args.wtns.now c.args.out.now
    (meant_proving c.args.options) c.in-Ok.outcome (shown c.in_ok-proved-in-Ok.field-0)
    (c.in-Ok.ensures.step files may)
    (λ proof is. c.in-Ok.ensures.accepted proof is files may) c.in_ok-proved-in-Ok.ensures zero

pub returns-in-Err-clause-accepted : goal.returns-in-Err-clause-accepted
returns-in-Err-clause-accepted g c =
    unsuccessful _ _ c.in-Err.stop c.reply.result c.reply.ensures
