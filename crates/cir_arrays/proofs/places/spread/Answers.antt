use Rattle.std.proofs.Common.{◌∙◌}
use Rattle.cir_arrays.proofs.Runs.{runs_more}
use Rattle.cir_arrays.proofs.places.spread.Goals as goal

pub loop-first-preserved : goal.loop-first-preserved
loop-first-preserved c =
    c.in_ok-push_run.ensures ∙ runs_more c.args.firsts.now c.loop-first.places.items
    c.loop-first.first-index c.args.count c.loop-first-test.true c.loop-first.invariant
