use Rattle.cir_ast.specs.Tree.{bare}
use Rattle.cir_meaning.specs.Anonymous.{signal_of}
use Rattle.cir_lift.proofs.Copied.{mapped_more}
use Rattle.cir_lift.proofs.made.outputs.Goals as goal

pub loop-name-preserved : goal.loop-name-preserved
loop-name-preserved c =
    mapped_more bare (signal_of c.args.own.index c.args.own.number) _ _ _ _ _ _ _
    c.loop-name-test.true c.name-item.is c.in_ok-place.ensures c.in_ok-push.ensures.items
    c.loop-name.invariant
