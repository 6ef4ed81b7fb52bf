use Rattle.std.proofs.Common.{[], drop}
use Rattle.cir_ast.specs.Tree.{as_accessors, bare_exprs}
use Rattle.cir_emit.specs.Sourced.{EachHas, PlaceHas}
use Rattle.wit_lower.specs.Homes as L
use Rattle.wit_emit.specs.Grounds.{front_of, ground_of}
use Rattle.wit_sourced.specs.Shown.{homes_of}
use Rattle.cir_has.proofs.values.+having.Given as goal

-- what is left is still wanting
abbrev pub invariant-has_each-loop-e : goal.invariant-has_each-loop-e
invariant-has_each-loop-e g l =
    EachHas (g.A.Arrays.there l.arrays) (ground_of l.ground) (homes_of l.scope.homes.items)
    (bare_exprs (drop l.e-index l.es))
    → EachHas (g.A.Arrays.there l.arrays) (ground_of l.ground) (homes_of l.scope.homes.items)
    (bare_exprs l.es)

abbrev pub invariant-has_place-loop-accessor : goal.invariant-has_place-loop-accessor
invariant-has_place-loop-accessor g l =
    PlaceHas (g.A.Arrays.there l.arrays) (ground_of l.ground) (homes_of l.scope.homes.items)
    (front_of l.front) l.indices.items (as_accessors (drop l.accessor-index l.accessors))
    → PlaceHas (g.A.Arrays.there l.arrays) (ground_of l.ground) (homes_of l.scope.homes.items)
    (L.Named l.fn.meant) [] (as_accessors l.accessors)
