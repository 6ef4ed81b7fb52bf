use Rattle.cir_lift.proofs.Declared.{declared_more}
use Rattle.cir_lift.proofs.made.declared_names.Goals as goal

pub loop-statement-preserved : goal.loop-statement-preserved
loop-statement-preserved c =
    declared_more c.args.direction _ _ _ _ _ _ _ c.loop-statement-test.true c.statement-item.is
    c.in_ok-push_names.ensures c.declared_signals.ensures c.loop-statement.invariant
