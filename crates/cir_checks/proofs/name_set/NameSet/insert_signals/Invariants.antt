use Rattle.std.proofs.Common.{◌≡◌, drop}
use Rattle.std.specs.Prelude.{map}
use Rattle.cir_ast.specs.Tree.{bare_signal}
use Rattle.cir_checks.specs.Faults.{and_names}
use Rattle.cir_checks.specs.Answers.{contained}
use Rattle.cir_checks.proofs.name_set.NameSet.insert_signals.Given as goal

-- what is left to insert leads to the same
abbrev pub invariant-loop-signal : goal.invariant-loop-signal
invariant-loop-signal l =
    and_names (contained l.self)
    (map (λ s. s.name) (map bare_signal (drop l.signal-index l.signals)))
    ≡ and_names (contained l.fn.self) (map (λ s. s.name) (map bare_signal l.signals))
