use Rattle.std.proofs.Common.{◌∙◌, ap, sym}
use Rattle.std.specs.Prelude.{map}
use Rattle.cir_ast.specs.Tree.{bare_first, bare_variable}
use Rattle.cir_meaning.specs.Simple.{each}
use Rattle.cir_meaning.specs.Scan.{scan_first, scan_variable}
use Rattle.cir_frame.specs.Shown.{state_of}
use Rattle.cir_evaluate.specs.Within.{context_at, where_at}
use Rattle.cir_execute.proofs.Going.{given}
use Rattle.cir_execute.proofs.scan.scan_first.Goals as goal

pub returns-in-Vars-clause-state : goal.returns-in-Vars-clause-state
returns-in-Vars-clause-state g c =
    let h = c.args.dark.now in
    λ m qs dark.
    let k = context_at h m in
    let w = where_at h in
    let s = state_of c.args.frame.now c.args.world.now qs in
    given _ _ _ _
    (ap (λ f. scan_first k w (bare_first f) s) c.in-Vars.is
    ∙ ap (λ vs. each (scan_variable k w) (map bare_variable vs) s) (sym c.as_slice.ensures))
    (c.scan_variables.ensures.state m qs dark)

pub returns-in-Assign-clause-state : goal.returns-in-Assign-clause-state
returns-in-Assign-clause-state g c =
    let h = c.args.dark.now in
    λ m qs dark. given _ _ _ _
    (ap (λ f. scan_first (context_at h m) (where_at h) (bare_first f)
    (state_of c.args.frame.now c.args.world.now qs)) c.in-Assign.is)
    (c.scan_assign.ensures.state m qs dark)
