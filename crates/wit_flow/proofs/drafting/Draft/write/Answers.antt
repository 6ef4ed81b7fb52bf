use Rattle.std.proofs.Common.{get_or, arith}
use Rattle.flow_core.proofs.Totals.{is_in_at}
use Rattle.wit_flow.proofs.Marking.{write_step}
use Rattle.wit_flow.proofs.drafting.Draft.write.Goals as goal

pub set-requires : goal.set-requires
set-requires c = let w = c.loop-cell.invariant.wide in
    let n = c.requires.near (get_or c.args.cells.now c.loop-cell.cell-index 0)
    (is_in_at c.args.cells.now c.loop-cell.cell-index c.loop-cell-test.true) in omega arith

pub loop-cell-preserved : goal.loop-cell-preserved
loop-cell-preserved c =
    let w = c.loop-cell.invariant.wide in
    let n = c.requires.near (get_or c.args.cells.now c.loop-cell.cell-index 0)
    (is_in_at c.args.cells.now c.loop-cell.cell-index c.loop-cell-test.true) in
    write_step c.args.self.now c.loop-cell.self c.args.cells.now c.loop-cell.cell-index
    c.number-number.result c.len.result c.set.new.self c.push.new.self c.loop-cell-test.true
    (omega arith) c.number-number.ensures c.loop-cell.invariant c.len.ensures
    c.in_ok-push.ensures.ok c.set.ensures
