use Rattle.cir_ast.specs.Tree.{bare, bare_assign, bare_statement}
use Rattle.cir_execute.proofs.Leaving.{all_touched, loop_touches}
use Rattle.cir_execute.proofs.undecided.touched.Goals as goal

pub returns-in-Whole : goal.returns-in-Whole
returns-in-Whole g c =
    let h = c.touched_by.ensures in
    λ spot. rw c.in-Whole.is
    (all_touched c.touched_by.result (bare_statement c.in-Whole.statement.now) h.assigned
    h.written h.declared)

pub returns-in-Loop : goal.returns-in-Loop
returns-in-Loop g c =
    let h = c.touched_by_loop.ensures in
    let l = c.in-Loop.rest in
    λ spot. rw c.in-Loop.is
    (loop_touches c.touched_by_loop.result spot l.step.now.spot (bare l.condition.now)
    (bare_statement l.body.now) (bare_assign l.step.now.assign) h.assigned h.written h.declared)
