use Rattle.std.proofs.Common.{drop}
use Rattle.cir_lift.proofs.Turns.{SignalsGo}
use Rattle.cir_lift.proofs.values.Lifter.signals.Given as goal

abbrev pub invariant-loop-signal : goal.invariant-loop-signal
invariant-loop-signal l =
    SignalsGo l.fn.self l.self l.lifted.items (drop l.signal-index l.signal-items) l.signal-items
