use Rattle.std.proofs.Common.{length, take}
use Rattle.wit_flow.specs.Sources.{AreSources}
use Rattle.wit_flow.specs.Draft.{ReadsMore}
use Rattle.wit_flow.proofs.drafting.Draft.find.Given as goal

abbrev pub invariant-loop-cell : goal.invariant-loop-cell
invariant-loop-cell l = record {
  reads : ReadsMore l.fn.self l.self (take l.cell-index l.cells);
  sources : AreSources l.self.open_reads l.self.open_writes (length l.self.open_writes) l.sources
      (take l.cell-index l.cells);
}
