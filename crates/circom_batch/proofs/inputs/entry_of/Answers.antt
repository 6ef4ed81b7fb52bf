use Rattle.std.proofs.Common.{arith}
use Rattle.circom_batch.proofs.Entries.{taken_line, taken_start}
use Rattle.circom_batch.proofs.inputs.entry_of.Goals as goal

pub returns-in_ok-push-in-Ok : goal.returns-in_ok-push-in-Ok
returns-in_ok-push-in-Ok c =
    let starts = c.args.starts.now in
    let place = c.len-place.ensures in
    taken_start c.args.signals.now.inputs starts.items c.args.line.now c.in-Ok.start _ _
    c.in_ok-push-in-Ok.ensures.items (omega (arith, starts.ok.0, place)) c.in-Ok.ensures

pub returns-in_ok-refused_line-in-Err : goal.returns-in_ok-refused_line-in-Err
returns-in_ok-refused_line-in-Err c =
    taken_line c.args.signals.now.inputs c.args.starts.now.items c.args.line.now c.in-Err.stop _
    c.in-Err.ensures c.in_ok-refused_line-in-Err.ensures
