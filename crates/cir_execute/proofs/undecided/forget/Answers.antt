use Rattle.std.proofs.Common.{◌∙◌, ◌+◌, drop, refl, ap, sym}
use Rattle.cir_arrays.specs.Counted.{counts_of}
use Rattle.cir_frame.specs.Shown.{state_of, world_of}
use Rattle.cir_meaning.specs.Frame as M
use Rattle.cir_meaning.specs.Frame.{State}
use Rattle.cir_meaning.specs.Scan.{forget}
use Rattle.cir_execute.proofs.Leaving.{forget_end, forget_more}
use Rattle.cir_execute.proofs.undecided.forget.Goals as goal

pub loop-n-init : goal.loop-n-init
loop-n-init c = λ w qs. refl

pub loop-n-preserved : goal.loop-n-preserved
loop-n-preserved c =
    let ns = c.args.variables.now in
    let i = c.loop-n.n-index in
    λ w qs.
    let with_frame : M.Frame → State = λ f. record { frame = f; world = world_of w qs } in
    ap (forget (drop (i + 1) ns)) (ap with_frame (c.forget_variable.ensures (counts_of w.added)))
    ∙ sym (forget_more ns i (state_of c.loop-n.frame w qs) c.loop-n-test.true)
    ∙ c.loop-n.invariant w qs

pub returns : goal.returns
returns c = λ w qs.
    sym (forget_end c.args.variables.now c.loop-n.n-index (state_of c.loop-n.frame w qs)
    c.loop-n-test.false) ∙ c.loop-n.invariant w qs
