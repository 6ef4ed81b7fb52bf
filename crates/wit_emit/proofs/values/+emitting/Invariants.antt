use Rattle.std.proofs.Common.{◌≡◌, ◌++◌, [], drop, length}
use Rattle.cir_ast.specs.Tree.{bare_exprs, as_accessors}
use Rattle.wit_lower.specs.Homes as L
use Rattle.wit_lower.specs.Values as V
use Rattle.wit_sourced.specs.Shown.{homes_of}
use Rattle.wit_emit.specs.Grounds.{front_of, ground_of}
use Rattle.wit_emit.proofs.values.+emitting.Given as goal

-- with the code of what is left, it is the whole code
abbrev pub invariant-emit_all-loop-e : goal.invariant-emit_all-loop-e
invariant-emit_all-loop-e l =
    l.code ++ V.exprs_code (ground_of l.ground) (homes_of l.scope.homes.items) l.at
    (length l.code) (bare_exprs (drop l.e-index l.es))
    ≡ l.initial.code ++ V.exprs_code (ground_of l.ground) (homes_of l.scope.homes.items)
    l.fn.top (length l.initial.code) (bare_exprs l.es)

abbrev pub invariant-emit_place-loop-accessor : goal.invariant-emit_place-loop-accessor
invariant-emit_place-loop-accessor l =
    l.code ++ V.place_code (ground_of l.ground) (homes_of l.scope.homes.items) l.fn.top
    (length l.code) (front_of l.front) l.indices.items
    (as_accessors (drop l.accessor-index l.accessors))
    ≡ l.initial.code ++ V.place_code (ground_of l.ground) (homes_of l.scope.homes.items)
    l.fn.top (length l.initial.code) (L.Named l.fn.meant) [] (as_accessors l.accessors)
