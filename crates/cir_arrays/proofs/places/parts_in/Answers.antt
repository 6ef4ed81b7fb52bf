use Rattle.std.proofs.Common.{◌∙◌}
use Rattle.cir_arrays.specs.Reached.{parts_at}
use Rattle.cir_arrays.proofs.Lists.{flat_more}
use Rattle.cir_arrays.proofs.places.parts_in.Goals as goal

pub loop-first-preserved : goal.loop-first-preserved
loop-first-preserved c =
    c.in_ok-push_parts.ensures ∙ flat_more (parts_at c.args.dimension c.args.index c.args.rest)
    c.args.firsts.now c.loop-first.first-index 0 c.loop-first.parts.items c.loop-first-test.true
    c.loop-first.invariant
