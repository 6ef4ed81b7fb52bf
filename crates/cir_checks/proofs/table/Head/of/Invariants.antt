use Rattle.std.proofs.Common.{◌≡◌, drop}
use Rattle.std.specs.Prelude.{map}
use Rattle.cir_ast.specs.Program.{bare_template}
use Rattle.cir_ast.specs.Tree.{bare_statement, as_statements}
use Rattle.cir_checks.specs.Heads.{head_of}
use Rattle.cir_checks.specs.Answers.{head_in, with_statements}
use Rattle.cir_checks.proofs.table.Head.of.Given as goal

-- what is left to add leads to the same
abbrev pub invariant-loop-statement : goal.invariant-loop-statement
invariant-loop-statement l =
    with_statements (head_in l.head)
    (as_statements (map bare_statement (drop l.statement-index l.statement-items)))
    ≡ head_of (bare_template l.template)
