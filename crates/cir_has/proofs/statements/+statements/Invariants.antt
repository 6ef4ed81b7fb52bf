use Rattle.std.proofs.Common.{◌≡◌, drop, length, take}
use Rattle.std.specs.Prelude.{map}
use Rattle.cir_ast.specs.Tree.{as_statements, bare_statement}
use Rattle.cir_emit.specs.Sourced as H
use Rattle.wit_emit.specs.Grounds.{ground_of}
use Rattle.wit_sourced.specs.Shown.{scope_of}
use Rattle.cir_has.proofs.statements.+statements.Given as goal

-- what is left is still wanting
abbrev pub invariant-has_statements-loop-statement :
    goal.invariant-has_statements-loop-statement
invariant-has_statements-loop-statement g l =
    (H.StatementsHave (g.A.Arrays.there l.arrays) (ground_of l.ground) (scope_of l.scope)
    (as_statements (map bare_statement (drop l.statement-index l.statements)))
    → H.StatementsHave (g.A.Arrays.there l.arrays) (ground_of l.ground)
    (scope_of l.initial.scope) (as_statements (map bare_statement l.statements)))
    × (take (length l.initial.scope.homes.items) l.scope.homes.items
    ≡ l.initial.scope.homes.items)
