use Rattle.std.proofs.Common.{◌≡◌, drop}
use Rattle.std.specs.Prelude.{map}
use Rattle.cir_ast.specs.Tree.{bare_statement, bare_block, as_statements}
use Rattle.cir_checks.specs.Statements.{statements_fault}
use Rattle.cir_checks.specs.Answers.{table_in}
use Rattle.cir_checks.proofs.table.Table.+statements.Given as goal

-- the first fault of what is left is the first of all
abbrev pub invariant-block-loop-statement : goal.invariant-block-loop-statement
invariant-block-loop-statement l =
    statements_fault (table_in l.self) l.position
    (as_statements (map bare_statement (drop l.statement-index l.statement-items)))
    ≡ statements_fault (table_in l.self) l.position (bare_block l.block)
