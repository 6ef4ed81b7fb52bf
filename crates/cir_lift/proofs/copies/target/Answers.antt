use Rattle.cir_ast.specs.Tree.{bare_slot}
use Rattle.cir_lift.proofs.Copied.{mapped_more}
use Rattle.cir_lift.proofs.copies.target.Goals as goal

pub loop-s-preserved : goal.loop-s-preserved
loop-s-preserved c =
    mapped_more bare_slot bare_slot _ _ _ _ _ _ _ c.loop-s-test.true c.s-item.is
    c.in_ok-copy-in-Tuple.ensures c.in_ok-push-in-Tuple.ensures.items c.loop-s.invariant
