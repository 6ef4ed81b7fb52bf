use Rattle.std.proofs.Common.{◌≡◌, ◌++◌, drop, length, take}
use Rattle.std.specs.Prelude.{map}
use Rattle.cir_ast.specs.Tree.{as_statements, bare_statement}
use Rattle.wit_lower.specs.Statements as S
use Rattle.wit_sourced.specs.Shown.{scope_of}
use Rattle.wit_emit.specs.Grounds.{ground_of}
use Rattle.wit_statements.proofs.statements.+statements.Given as goal

-- with the code of what is left, it is the whole code
abbrev pub invariant-emit_statements-loop-statement :
    goal.invariant-emit_statements-loop-statement
invariant-emit_statements-loop-statement l =
    (l.code ++ S.statements_code (ground_of l.ground) (scope_of l.scope) (length l.code)
    (as_statements (map bare_statement (drop l.statement-index l.statements)))
    ≡ l.initial.code ++ S.statements_code (ground_of l.ground) (scope_of l.initial.scope)
    (length l.initial.code) (as_statements (map bare_statement l.statements)))
    × (take (length l.initial.scope.homes.items) l.scope.homes.items
    ≡ l.initial.scope.homes.items)
