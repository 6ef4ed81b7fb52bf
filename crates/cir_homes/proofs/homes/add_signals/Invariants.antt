use Rattle.std.proofs.Common.{◌≡◌, ◌++◌, drop}
use Rattle.cir_homes.specs.Homed.{signal_homes}
use Rattle.cir_homes.proofs.homes.add_signals.Given as goal

abbrev pub invariant-loop-n : goal.invariant-loop-n
invariant-loop-n l =
    l.homes.items ++ signal_homes (drop l.n l.signals) (drop l.n l.ports)
    ≡ l.initial.homes.items ++ signal_homes l.signals l.ports
