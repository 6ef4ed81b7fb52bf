use Rattle.cir_ast.specs.Tree.{bare_slot}
use Rattle.cir_checks.specs.Statements.{slot_fault}
use Rattle.cir_checks.specs.Answers.{table_in}
use Rattle.cir_checks.proofs.Finding.{SameFault}
use Rattle.cir_checks.proofs.table.Table.slots.Given as goal

abbrev pub invariant-loop-slot : goal.invariant-loop-slot
invariant-loop-slot l =
    SameFault (slot_fault (table_in l.self) l.position) bare_slot l.slot-index l.slots
