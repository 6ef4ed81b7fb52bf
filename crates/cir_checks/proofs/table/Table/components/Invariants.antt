use Rattle.cir_ast.specs.Tree.{bare_component}
use Rattle.cir_checks.specs.Statements.{component_declaration_fault}
use Rattle.cir_checks.specs.Answers.{table_in}
use Rattle.cir_checks.proofs.Finding.{SameFault}
use Rattle.cir_checks.proofs.table.Table.components.Given as goal

abbrev pub invariant-loop-component : goal.invariant-loop-component
invariant-loop-component l =
    SameFault (component_declaration_fault (table_in l.self) l.position)
    bare_component l.component-index l.component-items
