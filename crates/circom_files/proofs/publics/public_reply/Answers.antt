use Rattle.std.proofs.Common.{Ok}
use Rattle.out_io.specs.Faults.{Rose}
use Rattle.circom_files.proofs.Ended.{ended, ended_below}
use Rattle.circom_files.proofs.Statuses.{below_by, published_below}
use Rattle.circom_files.specs.Proving.{public_of}
use Rattle.circom_files.specs.Reply.{published}
use Rattle.circom_files.proofs.publics.public_reply.Goals as goal

pub returns-in_ok-published-in-Ok-clause-says : goal.returns-in_ok-published-in-Ok-clause-says
returns-in_ok-published-in-Ok-clause-says g c = λ files may.
    (Ok c.in-Ok.published, c.in-Ok.ensures.step files may, c.in_ok-published-in-Ok.ensures)

pub returns-in_ok-published-in-Ok-clause-status : goal.returns-in_ok-published-in-Ok-clause-status
returns-in_ok-published-in-Ok-clause-status g c =
    below_by c.in_ok-published-in-Ok.field-0 _ c.in_ok-published-in-Ok.ensures
    (published_below c.args.out.now c.in-Ok.published)

pub returns-in-Err-clause-says : goal.returns-in-Err-clause-says
returns-in-Err-clause-says g c =
    ended (g.S.Store.may_hold c.published_in.new.store) (published c.args.out.now)
    (λ files. public_of files c.args.r1cs.now c.args.wtns.now)
    (Rose (g.S.Store.faults c.args.store.now) (g.S.Store.faults c.published_in.new.store))
    c.in-Err.stop c.reply.result c.in-Err.ensures.step c.reply.ensures

pub returns-in-Err-clause-status : goal.returns-in-Err-clause-status
returns-in-Err-clause-status g c = ended_below c.in-Err.stop c.reply.result c.reply.ensures
