use Rattle.std.proofs.Common.{drop}
use Rattle.std.specs.List.{AllByRecursion}
use Rattle.cir_ast.specs.Tree.{bare_exprs}
use Rattle.cir_emit.specs.Sourced.{HasAll}
use Rattle.cir_meaning.specs.Texts.{list_of}
use Rattle.wit_emit.specs.Grounds.{ground_of}
use Rattle.wit_sourced.specs.Shown.{homes_of}
use Rattle.cir_has.proofs.declaring.has_dims.Given as goal

abbrev pub invariant-loop-e : goal.invariant-loop-e
invariant-loop-e g l =
    AllByRecursion (HasAll (g.A.Arrays.there l.arrays) (ground_of l.ground)
    (homes_of l.scope.homes.items)) (list_of (bare_exprs (drop l.e-index l.es)))
    → AllByRecursion (HasAll (g.A.Arrays.there l.arrays) (ground_of l.ground)
    (homes_of l.scope.homes.items)) (list_of (bare_exprs l.es))
