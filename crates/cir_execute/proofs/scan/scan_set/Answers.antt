use Rattle.cir_ast.specs.Tree.{as_accessors}
use Rattle.cir_frame.specs.Shown.{state_of}
use Rattle.cir_arrays.proofs.Exits.{exit_gives}
use Rattle.cir_evaluate.specs.Within.{context_at, where_at}
use Rattle.cir_assign.specs.Given.{given_by}
use Rattle.cir_execute.proofs.Scanning.{scan_set_at, scan_set_told, kept_constraints}
use Rattle.cir_execute.proofs.scan.scan_set.Goals as goal

pub returns-in_err-_assignment-clause-state : goal.returns-in_err-_assignment-clause-state
returns-in_err-_assignment-clause-state g c =
    let h = c.args.dark.now in
    let p = c.args.p.now in
    λ m qs dark. exit_gives _ _ _ _ c.from_residual.ensures.1
    (scan_set_at (context_at h m) (where_at h) h.shaded p.meant c.in-Variable.variable
    (as_accessors p.accessors.now) (given_by p.given)
    (state_of c.args.frame.now c.args.world.now qs) _ dark c.in-Variable.is
    (c.in_err-_assignment.ensures.value m qs))

pub returns-clause-state : goal.returns-clause-state
returns-clause-state g c =
    let h = c.args.dark.now in
    let p = c.args.p.now in
    λ m qs dark. scan_set_told (context_at h m) (where_at h) h.shaded p.meant c.in-Variable.variable
    (as_accessors p.accessors.now) (given_by p.given)
    (state_of c.args.frame.now c.args.world.now qs)
    (state_of c.args.frame.now c.variable_assignment.new.world qs)
    c.in_ok-_assignment._assignment dark c.in-Variable.is
    (c.in_ok-_assignment.ensures.value m qs)

pub returns-clause-constraints : goal.returns-clause-constraints
returns-clause-constraints g c = λ m. kept_constraints c.variable_assignment.new.world
    c.args.world.now
    (c.in_ok-_assignment.ensures.keeps m)
