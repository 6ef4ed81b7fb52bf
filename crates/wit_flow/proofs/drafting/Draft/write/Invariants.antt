use Rattle.std.proofs.Common.{take}
use Rattle.wit_flow.specs.Draft.{WritesMore}
use Rattle.wit_flow.proofs.drafting.Draft.write.Given as goal

abbrev pub invariant-loop-cell : goal.invariant-loop-cell
invariant-loop-cell l = WritesMore l.fn.self l.self (take l.cell-index l.cells)
