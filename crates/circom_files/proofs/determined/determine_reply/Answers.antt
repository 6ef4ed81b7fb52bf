use Rattle.std.proofs.Common.{Ok}
use Rattle.out_io.specs.Faults.{Rose}
use Rattle.circom_files.proofs.Accepts.{unsuccessful}
use Rattle.circom_files.proofs.Certified.{writes_certificate}
use Rattle.circom_files.proofs.Ended.{ended_below, ended_to}
use Rattle.circom_files.proofs.Statuses.{below_by, determined_below}
use Rattle.circom_files.specs.Determining.{Searches}
use Rattle.circom_files.specs.Reply.{determined}
use Rattle.circom_files.specs.Shown.{shown}
use Rattle.circom_files.proofs.determined.determine_reply.Goals as goal

pub returns-in_ok-determined-in-Ok-clause-says : goal.returns-in_ok-determined-in-Ok-clause-says
returns-in_ok-determined-in-Ok-clause-says g c = λ files may.
    (Ok c.in-Ok.answer, c.in-Ok.ensures.step files may, c.in_ok-determined-in-Ok.ensures.reply)

pub returns-in_ok-determined-in-Ok-clause-status : goal.returns-in_ok-determined-in-Ok-clause-status
returns-in_ok-determined-in-Ok-clause-status g c =
    below_by c.in_ok-determined-in-Ok.field-0 _ c.in_ok-determined-in-Ok.ensures.reply
    (determined_below c.args.out.now c.in-Ok.answer)

pub returns-in-Err-clause-says : goal.returns-in-Err-clause-says
returns-in-Err-clause-says g c =
    ended_to (g.S.Store.may_hold c.answer_in.new.store) (determined c.args.out.now)
    (λ files found. Searches files c.args.r1cs.now found)
    (Rose (g.S.Store.faults c.args.store.now) (g.S.Store.faults c.answer_in.new.store))
    c.in-Err.stop c.reply.result c.in-Err.ensures.step c.reply.ensures

pub returns-in-Err-clause-status : goal.returns-in-Err-clause-status
returns-in-Err-clause-status g c = ended_below c.in-Err.stop c.reply.result c.reply.ensures

pub returns-in_ok-determined-in-Ok-clause-certificate
    : goal.returns-in_ok-determined-in-Ok-clause-certificate
returns-in_ok-determined-in-Ok-clause-certificate g c = λ files may zero.
    writes_certificate files c.args.r1cs.now c.args.out.now c.in-Ok.answer
    (shown c.in_ok-determined-in-Ok.field-0) (c.in-Ok.ensures.step files may)
    c.in_ok-determined-in-Ok.ensures.read_back c.in_ok-determined-in-Ok.ensures.reply zero

pub returns-in-Err-clause-certificate : goal.returns-in-Err-clause-certificate
returns-in-Err-clause-certificate g c =
    unsuccessful _ _ c.in-Err.stop c.reply.result c.reply.ensures
