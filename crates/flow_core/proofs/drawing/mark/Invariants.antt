use Rattle.std.proofs.Common.{take}
use Rattle.flow_core.specs.Drawn.{IsMarked}
use Rattle.flow_core.proofs.drawing.mark.Given as goal

abbrev pub invariant-loop-cell : goal.invariant-loop-cell
invariant-loop-cell l = IsMarked l.fn.marks l.marks (take l.cell-index l.cells) l.tag l.bound
