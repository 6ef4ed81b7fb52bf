use Rattle.cir_meaning.specs.Run.{Wires}
use Rattle.cir_make.specs.Cells.{wires_by}
use Rattle.cir_make.specs.Shows.{SameWires}
use Rattle.cir_write.proofs.signals.lengthen.Given as goal

abbrev pub invariant-loop-at : goal.invariant-loop-at
invariant-loop-at l =
    (own : Wires) → SameWires own (wires_by l.initial.signals.items)
    → SameWires own (wires_by l.signals.items)
