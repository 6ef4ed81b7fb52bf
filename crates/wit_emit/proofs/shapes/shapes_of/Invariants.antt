use Rattle.std.proofs.Common.{◌≡◌, ◌++◌, drop}
use Rattle.std.specs.Prelude.{map}
use Rattle.cir_ast.specs.Tree.{bare_exprs}
use Rattle.wit_lower.specs.Values as V
use Rattle.wit_sourced.specs.Shown.{homes_of}
use Rattle.wit_emit.specs.Grounds.{ground_of}
use Rattle.wit_emit.proofs.shapes.shapes_of.Given as goal

abbrev pub invariant-loop-e : goal.invariant-loop-e
invariant-loop-e l =
    map (λ d. d.items) l.shapes.items ++ V.shapes_of (ground_of l.ground)
    (homes_of l.scope.homes.items) (bare_exprs (drop l.e-index l.es))
    ≡ V.shapes_of (ground_of l.ground) (homes_of l.scope.homes.items) (bare_exprs l.es)
