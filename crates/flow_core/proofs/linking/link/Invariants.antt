use Rattle.std.proofs.Common.{take}
use Rattle.flow_core.specs.Drawn.{Links}
use Rattle.flow_core.proofs.linking.link.Given as goal

abbrev pub invariant-loop-cell : goal.invariant-loop-cell
invariant-loop-cell l = Links l.marks l.strand (take l.cell-index l.cells) l.fn.succs l.succs
    l.preds
