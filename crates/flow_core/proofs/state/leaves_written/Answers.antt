use Rattle.std.proofs.Common.{◌∙◌, sym, arith}
use Rattle.flow_core.proofs.Starts.{written_near, started_no, started_more}
use Rattle.flow_core.proofs.state.leaves_written.Goals as goal

pub bounds-start-cell : goal.bounds-start-cell
bounds-start-cell c = let l =
    written_near c.args.graph.now c.facts.ensures.net c.loop-strand.strand
    c.writes_of-cell-items.result.now c.writes_of-cell-items.ensures c.loop-cell.cell-index
    c.loop-cell-test.true in let e = c.requires in omega arith

pub returns-then-is_some : goal.returns-then-is_some
returns-then-is_some c = started_no c.args.graph.now c.facts.ensures.net c.loop-strand.strand
    c.writes_of-cell-items.result.now c.writes_of-cell-items.ensures c.loop-cell.cell-index
    c.loop-cell-test.true c.args.start.now c.index-start-cell.result c.requires
    c.index-start-cell.is (sym c.is_some.ensures ∙ c.if-is_some.true)

pub loop-cell-preserved : goal.loop-cell-preserved
loop-cell-preserved c = started_more c.args.graph.now c.facts.ensures.net c.loop-strand.strand
    c.writes_of-cell-items.result.now c.writes_of-cell-items.ensures c.loop-cell.cell-index
    c.loop-cell-test.true c.args.start.now c.index-start-cell.result c.requires
    c.index-start-cell.is (sym c.is_some.ensures ∙ c.if-is_some.false) c.loop-cell.invariant
