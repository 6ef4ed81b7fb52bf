use Rattle.std.proofs.Common.{◌≡◌, drop, false}
use Rattle.std.specs.Prelude.{map}
use Rattle.cir_ast.specs.Tree.{bare_statement, bare_block, as_statements}
use Rattle.cir_checks.specs.Statements.{last_returns}
use Rattle.cir_checks.proofs.checking.+returning.Given as goal

abbrev pub invariant-last_returns-loop-statement : goal.invariant-last_returns-loop-statement
invariant-last_returns-loop-statement l =
    last_returns l.returning
    (as_statements (map bare_statement (drop l.statement-index l.statement-items)))
    ≡ last_returns false (bare_block l.fn.block)
