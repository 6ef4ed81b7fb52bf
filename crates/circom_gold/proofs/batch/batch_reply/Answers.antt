use Rattle.std.proofs.Common.{◌∙◌, Ok, ap}
use Rattle.out_io.specs.Faults.{Rose}
use Rattle.circom_files.proofs.Ended.{ended_below, ended_to}
use Rattle.circom_files.proofs.Statuses.{below_by}
use Rattle.circom_words.specs.Words.{meant_options}
use Rattle.circom_gold.specs.Batch.{Batches, batched}
use Rattle.circom_gold.proofs.Batching.{batched_below}
use Rattle.circom_gold.proofs.batch.batch_reply.Goals as goal

pub returns-in_ok-written-in-Ok-clause-says : goal.returns-in_ok-written-in-Ok-clause-says
returns-in_ok-written-in-Ok-clause-says g c = λ files may. (
  Ok c.in-Ok.items,
  c.in-Ok.ensures.step files may,
  c.in_ok-written-in-Ok.ensures ∙ ap (batched c.args.out.now) c.as_slice.ensures,
)

pub returns-in_ok-written-in-Ok-clause-status : goal.returns-in_ok-written-in-Ok-clause-status
returns-in_ok-written-in-Ok-clause-status g c =
    below_by c.in_ok-written-in-Ok.field-0 (batched c.args.out.now c.as_slice.result.now)
    c.in_ok-written-in-Ok.ensures (batched_below c.args.out.now c.as_slice.result.now)

pub returns-in-Err-clause-says : goal.returns-in-Err-clause-says
returns-in-Err-clause-says g c =
    ended_to (g.S.Store.may_hold c.batch_in.new.store) (batched c.args.out.now)
    (λ files found. Batches files c.args.source.now c.args.inputs.now
    (meant_options c.args.options) c.args.running.fuel found)
    (Rose (g.S.Store.faults c.args.store.now) (g.S.Store.faults c.batch_in.new.store))
    c.in-Err.stop c.reply.result c.in-Err.ensures.step c.reply.ensures

pub returns-in-Err-clause-status : goal.returns-in-Err-clause-status
returns-in-Err-clause-status g c = ended_below c.in-Err.stop c.reply.result c.reply.ensures
