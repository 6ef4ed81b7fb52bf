use Rattle.std.proofs.Common.{drop}
use Rattle.std.specs.List.{AllByRecursion}
use Rattle.cir_ast.specs.Tree.{as_accessors}
use Rattle.cir_emit.specs.Sourced.{HasAll}
use Rattle.cir_meaning.specs.Texts.{indices_of}
use Rattle.wit_emit.specs.Grounds.{ground_of}
use Rattle.wit_sourced.specs.Shown.{homes_of}
use Rattle.cir_has.proofs.sets.has_indices.Given as goal

abbrev pub invariant-loop-accessor : goal.invariant-loop-accessor
invariant-loop-accessor g l =
    AllByRecursion (HasAll (g.A.Arrays.there l.arrays) (ground_of l.ground)
    (homes_of l.scope.homes.items)) (indices_of (as_accessors (drop l.accessor-index l.accessors)))
    → AllByRecursion (HasAll (g.A.Arrays.there l.arrays) (ground_of l.ground)
    (homes_of l.scope.homes.items)) (indices_of (as_accessors l.accessors))
