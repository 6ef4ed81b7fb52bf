use Rattle.cir_ast.specs.Tree.{bare_component}
use Rattle.cir_lift.proofs.Copied.{mapped_more}
use Rattle.cir_lift.proofs.copies.components.Goals as goal

pub loop-c-preserved : goal.loop-c-preserved
loop-c-preserved c =
    mapped_more bare_component bare_component _ _ _ _ _ _ _ c.loop-c-test.true c.c-item.is
    c.in_ok-copy-in-Declared.ensures c.in_ok-push-in-Declared.ensures.items c.loop-c.invariant
