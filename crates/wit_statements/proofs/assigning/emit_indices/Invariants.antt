use Rattle.std.proofs.Common.{◌≡◌, ◌++◌, drop, length}
use Rattle.cir_ast.specs.Tree.{as_accessors}
use Rattle.wit_lower.specs.Values as V
use Rattle.wit_sourced.specs.Shown.{homes_of}
use Rattle.wit_emit.specs.Grounds.{ground_of}
use Rattle.wit_statements.proofs.assigning.emit_indices.Given as goal

abbrev pub invariant-loop-accessor : goal.invariant-loop-accessor
invariant-loop-accessor l =
    l.code ++ V.indices_code (ground_of l.ground) (homes_of l.scope.homes.items) l.at
    (length l.code) (as_accessors (drop l.accessor-index l.accessors))
    ≡ l.initial.code ++ V.indices_code (ground_of l.ground) (homes_of l.scope.homes.items)
    l.fn.top (length l.initial.code) (as_accessors l.accessors)
