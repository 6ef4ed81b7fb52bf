use Rattle.std.proofs.Common.{Ok}
use Rattle.circom_files.proofs.Ended.{ended_below}
use Rattle.circom_files.proofs.Statuses.{below_by}
use Rattle.circom_gold.proofs.Generating.{generate_stopped}
use Rattle.circom_gold.proofs.Replies.{generated_below}
use Rattle.circom_gold.proofs.generate.generate_reply.Goals as goal

pub returns-in_ok-generated-in-Ok-clause-says : goal.returns-in_ok-generated-in-Ok-clause-says
returns-in_ok-generated-in-Ok-clause-says g c =
    (Ok c.in-Ok.found, c.in-Ok.ensures, c.in_ok-generated-in-Ok.ensures)

pub returns-in_ok-generated-in-Ok-clause-status : goal.returns-in_ok-generated-in-Ok-clause-status
returns-in_ok-generated-in-Ok-clause-status g c =
    below_by c.in_ok-generated-in-Ok.field-0 _ c.in_ok-generated-in-Ok.ensures
    (generated_below c.args.size c.in-Ok.found)

pub returns-in-Err-clause-says : goal.returns-in-Err-clause-says
returns-in-Err-clause-says g c =
    generate_stopped c.args.seed c.args.size c.args.running.fuel _ _ c.in-Err.ensures
    c.reply.ensures

pub returns-in-Err-clause-status : goal.returns-in-Err-clause-status
returns-in-Err-clause-status g c = ended_below c.in-Err.stop c.reply.result c.reply.ensures
