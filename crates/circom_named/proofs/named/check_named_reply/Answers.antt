use Rattle.std.proofs.Common.{Ok}
use Rattle.out_io.specs.Faults.{Rose}
use Rattle.circom_files.proofs.Ended.{ended, ended_below}
use Rattle.circom_files.proofs.Statuses.{below_by, verdict_below}
use Rattle.circom_named.specs.Named.{check_named_of}
use Rattle.circom_files.specs.Reply.{checked_by_name}
use Rattle.circom_named.proofs.named.check_named_reply.Goals as goal

pub returns-in_ok-checked_by_name-in-Ok-clause-says
    : goal.returns-in_ok-checked_by_name-in-Ok-clause-says
returns-in_ok-checked_by_name-in-Ok-clause-says g c = λ files may.
    (Ok c.in-Ok.found, c.in-Ok.ensures.step files may, c.in_ok-checked_by_name-in-Ok.ensures)

pub returns-in_ok-checked_by_name-in-Ok-clause-status
    : goal.returns-in_ok-checked_by_name-in-Ok-clause-status
returns-in_ok-checked_by_name-in-Ok-clause-status g c =
    below_by c.in_ok-checked_by_name-in-Ok.field-0 _ c.in_ok-checked_by_name-in-Ok.ensures
    (verdict_below c.in-Ok.found.verdict)

pub returns-in-Err-clause-says : goal.returns-in-Err-clause-says
returns-in-Err-clause-says g c =
    ended (g.S.Store.may_hold c.check_named.new.store) checked_by_name
    (λ files. check_named_of files c.args.r1cs.now c.args.wtns.now c.args.names.now)
    (Rose (g.S.Store.faults c.args.store.now) (g.S.Store.faults c.check_named.new.store))
    c.in-Err.stop c.reply.result c.in-Err.ensures.step c.reply.ensures

pub returns-in-Err-clause-status : goal.returns-in-Err-clause-status
returns-in-Err-clause-status g c = ended_below c.in-Err.stop c.reply.result c.reply.ensures
