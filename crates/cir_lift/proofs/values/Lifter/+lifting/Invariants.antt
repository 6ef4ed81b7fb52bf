use Rattle.std.proofs.Common.{drop}
use Rattle.cir_lift.proofs.Turns.{ExprsGo, NamedGo}
use Rattle.cir_lift.proofs.values.Lifter.+lifting.Given as goal

abbrev pub invariant-exprs-loop-e : goal.invariant-exprs-loop-e
invariant-exprs-loop-e l =
    ExprsGo l.fn.self l.self l.lifted.items (drop l.e-index l.es) l.es

abbrev pub invariant-named-loop-i : goal.invariant-named-loop-i
invariant-named-loop-i l =
    NamedGo l.fn.self l.self l.lifted.items (drop l.i-index l.inputs) l.inputs
