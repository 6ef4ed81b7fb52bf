use Rattle.cir_ast.specs.Tree.{bare_variable}
use Rattle.cir_checks.specs.Statements.{variable_fault}
use Rattle.cir_checks.specs.Answers.{table_in}
use Rattle.cir_checks.proofs.Finding.{SameFault}
use Rattle.cir_checks.proofs.table.Table.variables.Given as goal

abbrev pub invariant-loop-variable : goal.invariant-loop-variable
invariant-loop-variable l =
    SameFault (variable_fault (table_in l.self) l.position)
    bare_variable l.variable-index l.variables
