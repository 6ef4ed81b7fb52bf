use Rattle.cir_ast.specs.Tree.{bare_signal}
use Rattle.cir_checks.specs.Statements.{signal_fault}
use Rattle.cir_checks.specs.Answers.{table_in}
use Rattle.cir_checks.proofs.Finding.{SameFault}
use Rattle.cir_checks.proofs.table.Table.signals.Given as goal

abbrev pub invariant-loop-signal : goal.invariant-loop-signal
invariant-loop-signal l =
    SameFault (signal_fault (table_in l.self) l.position l.signals.direction)
    bare_signal l.signal-index l.signal-items
