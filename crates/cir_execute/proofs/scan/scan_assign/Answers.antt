use Rattle.cir_ast.specs.Tree.{bare_assign}
use Rattle.cir_frame.specs.Shown.{state_of}
use Rattle.cir_evaluate.specs.Within.{context_at, where_at}
use Rattle.cir_execute.proofs.Going.{given, refusal}
use Rattle.cir_execute.proofs.Scanning.{scan_placed, scan_arrow}
use Rattle.cir_execute.proofs.scan.scan_assign.Goals as goal

pub returns-in-Some-clause-state : goal.returns-in-Some-clause-state
returns-in-Some-clause-state g c =
    let h = c.args.dark.now in
    λ m qs dark. given _ _ _ _
    (scan_placed (context_at h m) (where_at h) (bare_assign c.args.assign.now) c.in-Some.p
    (state_of c.args.frame.now c.args.world.now qs) c.in-Some.ensures)
    (c.scan_set.ensures.state m qs dark)

pub returns-in-None-clause-state : goal.returns-in-None-clause-state
returns-in-None-clause-state g c =
    let h = c.args.dark.now in
    λ m qs dark. refusal _ _ _
    (scan_arrow (context_at h m) (where_at h) (bare_assign c.args.assign.now)
    (state_of c.args.frame.now c.args.world.now qs) c.in-None.ensures) c.refused.ensures
