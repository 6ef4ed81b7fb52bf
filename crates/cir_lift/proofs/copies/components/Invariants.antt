use Rattle.std.proofs.Common.{◌≡◌, ◌++◌, drop}
use Rattle.std.specs.Prelude.{map}
use Rattle.cir_ast.specs.Tree.{bare_component}
use Rattle.cir_lift.proofs.copies.components.Given as goal

abbrev pub invariant-loop-c : goal.invariant-loop-c
invariant-loop-c l =
    map bare_component l.copies.items ++ map bare_component (drop l.c-index l.c-items)
    ≡ map bare_component l.c-items
