use Rattle.cir_ast.specs.Tree.{bare_variable}
use Rattle.cir_lift.proofs.Copied.{mapped_more}
use Rattle.cir_lift.proofs.copies.variables.Goals as goal

pub loop-v-preserved : goal.loop-v-preserved
loop-v-preserved c =
    mapped_more bare_variable bare_variable _ _ _ _ _ _ _ c.loop-v-test.true c.v-item.is
    c.in_ok-copy.ensures c.in_ok-push.ensures.items c.loop-v.invariant
