use Rattle.std.proofs.Common.{◌≡◌, drop}
use Rattle.std.specs.Prelude.{map}
use Rattle.cir_ast.specs.Tree.{bare, bare_slot}
use Rattle.cir_checks.specs.Statements.{slot_values_fault}
use Rattle.cir_checks.specs.Answers.{table_in}
use Rattle.cir_checks.proofs.table.Table.slot_values.Given as goal

-- the first fault of what is left is the first of all
abbrev pub invariant-loop-value : goal.invariant-loop-value
invariant-loop-value l =
    slot_values_fault (table_in l.self) l.position (map bare_slot l.left)
    (map bare (drop l.value-index l.values))
    ≡ slot_values_fault (table_in l.self) l.position (map bare_slot l.slots) (map bare l.values)
