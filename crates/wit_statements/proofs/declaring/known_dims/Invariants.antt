use Rattle.std.proofs.Common.{◌≡◌, ◌++◌, drop}
use Rattle.std.specs.Prelude.{map, unwrap_or}
use Rattle.cir_ast.specs.Tree.{bare_exprs}
use Rattle.cir_meaning.specs.Texts.{list_of}
use Rattle.wit_emit.specs.Grounds.{ground_of}
use Rattle.wit_statements.proofs.declaring.known_dims.Given as goal

abbrev pub invariant-loop-e : goal.invariant-loop-e
invariant-loop-e l =
    l.dims.items ++ map (λ e. unwrap_or ((ground_of l.ground).known e) 0)
    (list_of (bare_exprs (drop l.e-index l.es)))
    ≡ map (λ e. unwrap_or ((ground_of l.ground).known e) 0) (list_of (bare_exprs l.es))
