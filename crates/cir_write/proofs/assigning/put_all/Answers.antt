use Rattle.std.proofs.Common.{◌∙◌}
use Rattle.cir_write.proofs.CodeSources.{put_more}
use Rattle.cir_write.proofs.assigning.put_all.Goals as goal

pub loop-at-preserved : goal.loop-at-preserved
loop-at-preserved c = λ k.
    c.loop-at.invariant k
    ∙ put_more c.args.places.now c.loop-at.at c.args.first c.in_ok-cell.cell k _ _
    c.loop-at-test.true c.in_ok-cell.ensures.ok (c.in_ok-put.ensures k)
