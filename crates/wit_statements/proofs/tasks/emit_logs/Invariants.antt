use Rattle.std.proofs.Common.{◌≡◌, ◌++◌, drop, length}
use Rattle.std.specs.Prelude.{map}
use Rattle.cir_ast.specs.Tree.{bare_argument}
use Rattle.wit_lower.specs.Tasks as T
use Rattle.wit_sourced.specs.Shown.{scope_of}
use Rattle.wit_emit.specs.Grounds.{ground_of}
use Rattle.wit_statements.proofs.tasks.emit_logs.Given as goal

abbrev pub invariant-loop-argument : goal.invariant-loop-argument
invariant-loop-argument l =
    l.code ++ T.logs_code (ground_of l.ground) (scope_of l.scope) (length l.code)
    (T.logged (map bare_argument (drop l.argument-index l.arguments)))
    ≡ l.initial.code ++ T.logs_code (ground_of l.ground) (scope_of l.scope)
    (length l.initial.code) (T.logged (map bare_argument l.arguments))
