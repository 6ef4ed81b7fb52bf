use Rattle.std.proofs.Common.{Ok}
use Rattle.out_io.specs.Faults.{Rose}
use Rattle.circom_files.proofs.Accepts.{unsuccessful}
use Rattle.circom_files.proofs.Certified.{confirmed_so}
use Rattle.circom_files.proofs.Ended.{ended_below, ended_to}
use Rattle.circom_files.proofs.Statuses.{below_by, confirmed_below}
use Rattle.circom_files.specs.Determining.{Confirms, HasDetermined}
use Rattle.circom_files.specs.Reply.{confirmed}
use Rattle.circom_files.specs.Shown.{shown}
use Rattle.circom_files.proofs.determined.confirm_reply.Goals as goal

pub returns-in_ok-confirmed-in-Ok-clause-says : goal.returns-in_ok-confirmed-in-Ok-clause-says
returns-in_ok-confirmed-in-Ok-clause-says g c = λ files may.
    (Ok c.in-Ok.verdict, c.in-Ok.ensures.step files may, c.in_ok-confirmed-in-Ok.ensures)

pub returns-in_ok-confirmed-in-Ok-clause-status : goal.returns-in_ok-confirmed-in-Ok-clause-status
returns-in_ok-confirmed-in-Ok-clause-status g c =
    below_by c.in_ok-confirmed-in-Ok.field-0 _ c.in_ok-confirmed-in-Ok.ensures
    (confirmed_below c.in-Ok.verdict)

pub returns-in-Err-clause-says : goal.returns-in-Err-clause-says
returns-in-Err-clause-says g c =
    ended_to (g.S.Store.may_hold c.verdict_in.new.store) confirmed
    (λ files found. Confirms files c.args.r1cs.now c.args.certificate.now found)
    (Rose (g.S.Store.faults c.args.store.now) (g.S.Store.faults c.verdict_in.new.store))
    c.in-Err.stop c.reply.result c.in-Err.ensures.step c.reply.ensures

pub returns-in-Err-clause-status : goal.returns-in-Err-clause-status
returns-in-Err-clause-status g c = ended_below c.in-Err.stop c.reply.result c.reply.ensures

pub returns-in_ok-confirmed-in-Ok-clause-determined
    : goal.returns-in_ok-confirmed-in-Ok-clause-determined
returns-in_ok-confirmed-in-Ok-clause-determined g c = λ files may.
    confirmed_so c.in-Ok.verdict (shown c.in_ok-confirmed-in-Ok.field-0)
    (HasDetermined files c.args.r1cs.now) c.in_ok-confirmed-in-Ok.ensures
    (λ is. c.in-Ok.ensures.determined is files may)

pub returns-in-Err-clause-determined : goal.returns-in-Err-clause-determined
returns-in-Err-clause-determined g c =
    unsuccessful _ _ c.in-Err.stop c.reply.result c.reply.ensures
