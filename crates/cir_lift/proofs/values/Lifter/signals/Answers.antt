use Rattle.cir_lift.proofs.Turns.{signals_turn, signals_lifted}
use Rattle.cir_lift.proofs.values.Lifter.signals.Goals as goal

pub loop-signal-preserved : goal.loop-signal-preserved
loop-signal-preserved c =
    signals_turn c.args.self.now c.loop-signal.self c.signal.new.self c.loop-signal.lifted.items
    c.push.new.self.items c.as_slice-signal-items.result.now c.loop-signal.signal-index
    c.signal-item.result c.in_ok-signal.signal c.loop-signal-test.true c.signal-item.is
    c.loop-signal.invariant c.in_ok-signal.ensures c.in_ok-push.ensures.items

pub returns : goal.returns
returns c =
    signals_lifted c.args.self.now c.loop-signal.self c.args.signals.now.direction
    c.loop-signal.lifted.items c.of.result c.as_slice-signal-items.result.now
    c.args.signals.now.signals c.loop-signal.signal-index c.loop-signal-test.false
    c.as_slice-signal-items.ensures c.of.ensures c.loop-signal.invariant
