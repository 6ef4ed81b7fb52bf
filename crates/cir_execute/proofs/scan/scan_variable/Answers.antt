use Rattle.std.proofs.Common.{◌∙◌, Ok, ap, sym}
use Rattle.std.specs.Prelude.{Some}
use Rattle.cir_ast.specs.Tree.{bare_value, bare_variable, bare_exprs}
use Rattle.cir_meaning.specs.Scan.{scan_value, scan_declared}
use Rattle.cir_meaning.specs.Frame.{State}
use Rattle.cir_frame.specs.Shown.{state_of}
use Rattle.cir_arrays.proofs.Exits.{exit_gives}
use Rattle.cir_evaluate.specs.Within.{context_at, where_at}
use Rattle.cir_execute.proofs.Going.{given}
use Rattle.cir_execute.proofs.Scanning.{variable_goes, variable_stops}
use Rattle.cir_execute.proofs.scan.scan_variable.Goals as goal

pub returns-in_err-dims-clause-state : goal.returns-in_err-dims-clause-state
returns-in_err-dims-clause-state g c =
    let h = c.args.dark.now in
    λ m qs dark. exit_gives _ _ _ _ c.from_residual.ensures.1
    (variable_stops (context_at h m) (where_at h) h.shaded c.args.v.now c.in-Variable.n
    c.as_slice.result.now (state_of c.args.frame.now c.args.world.now qs) _ c.in-Variable.is
    c.as_slice.ensures dark (c.in_err-dims.ensures.value m qs))

pub returns-in-None-clause-state : goal.returns-in-None-clause-state
returns-in-None-clause-state g c =
    let h = c.args.dark.now in
    let v = c.args.v.now in
    λ m qs dark.
    let k = context_at h m in
    let w = where_at h in
    let s1 = state_of c.args.frame.now c.dims_in.new.world qs in
    variable_goes k w h.shaded v c.in-Variable.n c.as_slice.result.now
    (state_of c.args.frame.now c.args.world.now qs) s1 c.in_ok-dims.dims.items c.in-Variable.is
    c.as_slice.ensures dark (c.in_ok-dims.ensures.value m qs)
    ∙ ap (λ o. scan_value k w v.meant (bare_value o)
    (scan_declared c.in-Variable.n c.in_ok-dims.dims.items s1)) c.in-None.is
    ∙ ap (λ (z : State). Ok z) (sym (c.in_ok-declare_variable.ensures.state qs))

pub returns-in-Some-clause-state : goal.returns-in-Some-clause-state
returns-in-Some-clause-state g c =
    let h = c.args.dark.now in
    let v = c.args.v.now in
    λ m qs dark.
    let k = context_at h m in
    let w = where_at h in
    let s1 = state_of c.args.frame.now c.dims_in.new.world qs in
    given _ _ _ _
    (variable_goes k w h.shaded v c.in-Variable.n c.as_slice.result.now
    (state_of c.args.frame.now c.args.world.now qs) s1 c.in_ok-dims.dims.items c.in-Variable.is
    c.as_slice.ensures dark (c.in_ok-dims.ensures.value m qs)
    ∙ ap (λ o. scan_value k w v.meant (bare_value o)
    (scan_declared c.in-Variable.n c.in_ok-dims.dims.items s1)) c.in-Some.is
    ∙ ap (λ z. scan_value k w v.meant (bare_value (Some c.in-Some.e)) z)
    (sym (c.in_ok-declare_variable.ensures.state qs)))
    (c.scan_set.ensures.state m qs dark)
