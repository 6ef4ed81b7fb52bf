use Rattle.std.proofs.Common.{Ok}
use Rattle.out_io.specs.Faults.{Rose}
use Rattle.circom_files.proofs.Ended.{ended, ended_below}
use Rattle.circom_files.proofs.Statuses.{below_by, verdict_below}
use Rattle.circom_files.specs.Check.{check_of}
use Rattle.circom_files.specs.Reply.{checked}
use Rattle.circom_files.proofs.check.check_reply.Goals as goal

pub returns-in_ok-checked-in-Ok-clause-says : goal.returns-in_ok-checked-in-Ok-clause-says
returns-in_ok-checked-in-Ok-clause-says g c = λ files may.
    (Ok c.in-Ok.verdict, c.in-Ok.ensures.step files may, c.in_ok-checked-in-Ok.ensures)

pub returns-in_ok-checked-in-Ok-clause-status : goal.returns-in_ok-checked-in-Ok-clause-status
returns-in_ok-checked-in-Ok-clause-status g c =
    below_by c.in_ok-checked-in-Ok.field-0 _ c.in_ok-checked-in-Ok.ensures
    (verdict_below c.in-Ok.verdict)

pub returns-in-Err-clause-says : goal.returns-in-Err-clause-says
returns-in-Err-clause-says g c =
    ended (g.S.Store.may_hold c.check.new.store) checked
    (λ files. check_of files c.args.r1cs.now c.args.wtns.now)
    (Rose (g.S.Store.faults c.args.store.now) (g.S.Store.faults c.check.new.store))
    c.in-Err.stop c.reply.result c.in-Err.ensures.step c.reply.ensures

pub returns-in-Err-clause-status : goal.returns-in-Err-clause-status
returns-in-Err-clause-status g c = ended_below c.in-Err.stop c.reply.result c.reply.ensures
