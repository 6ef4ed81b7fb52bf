use Rattle.std.proofs.Common.{◌≡◌, ◌++◌, drop}
use Rattle.std.specs.Prelude.{map}
use Rattle.cir_ast.specs.Tree.{bare}
use Rattle.cir_meaning.specs.Anonymous.{signal_of}
use Rattle.cir_lift.proofs.made.outputs.Given as goal

abbrev pub invariant-loop-name : goal.invariant-loop-name
invariant-loop-name l =
    map bare l.outputs.items
    ++ map (signal_of l.own.index l.own.number) (drop l.name-index l.name-items)
    ≡ map (signal_of l.own.index l.own.number) l.name-items
