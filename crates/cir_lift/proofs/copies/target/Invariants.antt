use Rattle.std.proofs.Common.{◌≡◌, ◌++◌, drop}
use Rattle.std.specs.Prelude.{map}
use Rattle.cir_ast.specs.Tree.{bare_slot}
use Rattle.cir_lift.proofs.copies.target.Given as goal

abbrev pub invariant-loop-s : goal.invariant-loop-s
invariant-loop-s l =
    map bare_slot l.copies.items ++ map bare_slot (drop l.s-index l.s-items)
    ≡ map bare_slot l.s-items
