use Rattle.std.proofs.Common.{drop}
use Rattle.std.specs.Prelude.{map}
use Rattle.cir_ast.specs.Tree.{bare_signal}
use Rattle.cir_lift.proofs.Without.{SignalsWithout}
use Rattle.cir_lift.proofs.holding.signals_hold.Given as goal

abbrev pub invariant-loop-signal : goal.invariant-loop-signal
invariant-loop-signal l =
    SignalsWithout (map bare_signal (drop l.signal-index l.signal-items))
    → SignalsWithout (map bare_signal l.signals.signals)
