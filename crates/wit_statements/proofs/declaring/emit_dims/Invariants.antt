use Rattle.std.proofs.Common.{◌≡◌, ◌++◌, drop, length}
use Rattle.cir_ast.specs.Tree.{bare_exprs}
use Rattle.wit_lower.specs.Statements as S
use Rattle.wit_sourced.specs.Shown.{scope_of}
use Rattle.wit_emit.specs.Grounds.{ground_of}
use Rattle.wit_statements.proofs.declaring.emit_dims.Given as goal

abbrev pub invariant-loop-e : goal.invariant-loop-e
invariant-loop-e l =
    l.code ++ S.dims_code (ground_of l.ground) (scope_of l.scope) (length l.code)
    (bare_exprs (drop l.e-index l.es))
    ≡ l.initial.code ++ S.dims_code (ground_of l.ground) (scope_of l.scope)
    (length l.initial.code) (bare_exprs l.es)
