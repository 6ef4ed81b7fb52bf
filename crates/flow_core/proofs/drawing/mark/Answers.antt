use Rattle.flow_core.proofs.Marks.{marked_more, far_no, taken_no}
use Rattle.flow_core.proofs.drawing.mark.Goals as goal
use Rattle.flow_core.proofs.drawing.mark.Goals.{then-at-marks-via-then-at-marks}
use Rattle.flow_core.proofs.drawing.mark.Goals.{then-at-marks-via-else-at-marks+then-marks-at}

pub returns-then-at-marks : goal.returns-then-at-marks
returns-then-at-marks c = elim c.then-at-marks.branch [
  | then-at-marks-via-then-at-marks w ↦
      far_no c.args.marks.now c.loop-cell.marks c.args.cells.now c.args.tag c.args.bound
      c.loop-cell.cell-index c.requires c.loop-cell.invariant c.loop-cell-test.true
      c.loop-cell.auto.marks w.if-at-marks.true
  | then-at-marks-via-else-at-marks+then-marks-at w ↦
      taken_no c.args.marks.now c.loop-cell.marks c.args.cells.now c.args.tag c.args.bound
      c.loop-cell.cell-index c.requires c.loop-cell.invariant c.loop-cell-test.true
      c.loop-cell.auto.marks w.if-marks-at.true
]

pub loop-cell-preserved : goal.loop-cell-preserved
loop-cell-preserved c = marked_more c.args.marks.now c.loop-cell.marks c.args.cells.now c.args.tag
    c.args.bound c.loop-cell.cell-index c.requires c.loop-cell.invariant c.loop-cell-test.true
    c.loop-cell.auto.marks c.if-at-marks.false c.if-marks-at.false
