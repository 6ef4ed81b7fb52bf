use Rattle.std.proofs.Common.{◌≡◌, [], drop}
use Rattle.cir_ast.specs.Tree.{as_accessors}
use Rattle.wit_lower.specs.Homes as L
use Rattle.wit_lower.specs.Values as V
use Rattle.wit_sourced.specs.Shown.{homes_of}
use Rattle.wit_emit.specs.Grounds.{front_of, ground_of}
use Rattle.wit_emit.proofs.shapes.place_shape.Given as goal

abbrev pub invariant-loop-accessor : goal.invariant-loop-accessor
invariant-loop-accessor l =
    V.place_shape (ground_of l.ground) (homes_of l.scope.homes.items) (front_of l.front)
    l.indices.items (as_accessors (drop l.accessor-index l.accessors))
    ≡ V.place_shape (ground_of l.ground) (homes_of l.scope.homes.items) (L.Named l.fn.meant) []
    (as_accessors l.accessors)
