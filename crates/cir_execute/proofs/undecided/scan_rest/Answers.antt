use Rattle.cir_ast.specs.Tree.{bare, bare_assign, bare_statement}
use Rattle.cir_frame.specs.Shown.{state_of}
use Rattle.cir_evaluate.specs.Within.{context_at, where_at}
use Rattle.cir_execute.proofs.Going.{given}
use Rattle.cir_execute.proofs.Scanning.{scan_loop_is}
use Rattle.cir_execute.proofs.undecided.scan_rest.Goals as goal

pub returns-in-Whole-clause-state : goal.returns-in-Whole-clause-state
returns-in-Whole-clause-state g c =
    λ m spot qs dark. rw c.in-Whole.is (c.scan.ensures.state m qs dark)

pub returns-in-Loop-clause-state : goal.returns-in-Loop-clause-state
returns-in-Loop-clause-state g c =
    let h = c.args.dark.now in
    let l = c.in-Loop.rest in
    λ m spot qs dark. rw c.in-Loop.is (given _ _ _ _
    (scan_loop_is (context_at h m) (where_at h) spot l.step.now.spot (bare l.condition.now)
    (bare_statement l.body.now) (bare_assign l.step.now.assign)
    (state_of c.args.frame.now c.args.world.now qs)) (c.scan_loop.ensures.state m qs dark))
