use Rattle.std.proofs.Common.{◌≡◌, ◌++◌, drop}
use Rattle.std.specs.Prelude.{map}
use Rattle.cir_ast.specs.Tree.{bare_signal}
use Rattle.cir_lift.proofs.made.push_names.Given as goal

abbrev pub invariant-loop-signal : goal.invariant-loop-signal
invariant-loop-signal l =
    l.names.items ++ map (λ s. s.name) (map bare_signal (drop l.signal-index l.signals))
    ≡ l.fn.names.items ++ map (λ s. s.name) (map bare_signal l.signals)
