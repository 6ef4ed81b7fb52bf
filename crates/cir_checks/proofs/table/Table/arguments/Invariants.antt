use Rattle.cir_ast.specs.Tree.{bare_argument}
use Rattle.cir_checks.specs.Statements.{argument_fault}
use Rattle.cir_checks.specs.Answers.{table_in}
use Rattle.cir_checks.proofs.Finding.{SameFault}
use Rattle.cir_checks.proofs.table.Table.arguments.Given as goal

abbrev pub invariant-loop-argument : goal.invariant-loop-argument
invariant-loop-argument l =
    SameFault (argument_fault (table_in l.self) l.position)
    bare_argument l.argument-index l.arguments
