use Rattle.std.proofs.Common.{[], ap, refl, ◌∙◌}
use Rattle.cir_ast.specs.declared.marked.SignalValue.TheVariants as value
use Rattle.cir_frame.specs.Shown.{state_of}
use Rattle.cir_evaluate.specs.Within.{Kept, context_at}
use Rattle.cir_assign.proofs.Stepping.{leads_behind, lists_kept}
use Rattle.cir_create.proofs.Declarations.{signal_goes}
use Rattle.cir_create.proofs.declaring.signal.Goals as goal

pub returns-in-Nothing : goal.returns-in-Nothing
returns-in-Nothing g c = λ m qs shaded.
    let h = c.args.here.now in
    let k = context_at h m in
    let w0 = c.args.world.now in
    let w2 = c.declare_signal.new.world in
    let f = c.args.frame.now in
    let dims = rw (c.as_slice.ensures, shaded) at (c.in_ok-dims.ensures.value m qs) in
    let declared = rw c.as_slice-2.ensures at (c.in_ok-declare_signal.ensures.state k qs
    record { size = refl; group = refl; same_instance = refl }) in (
      qs,
      signal_goes k h.spot c.args.direction c.args.d.now c.in_ok-number.number
          c.in_ok-dims.dims.items (state_of f w0 qs) (state_of f c.dims_in.new.world qs)
          (state_of c.declare_signal.new.frame w2 qs) value.Nothing c.in_ok-number.ensures dims
          declared c.in-Nothing.is,
      lists_kept qs w0 w2 (c.in_ok-declare_signal.ensures.constraints
          ∙ ap (λ (x : Kept). x.constraints) (c.in_ok-dims.ensures.keeps m)),
    )

pub returns-in-Given : goal.returns-in-Given
returns-in-Given g c = λ m qs shaded.
    let h = c.args.here.now in
    let k = context_at h m in
    let w0 = c.args.world.now in
    let w2 = c.declare_signal.new.world in
    let f = c.args.frame.now in
    let dims = rw (c.as_slice.ensures, shaded) at (c.in_ok-dims.ensures.value m qs) in
    let declared = rw c.as_slice-2.ensures at (c.in_ok-declare_signal.ensures.state k qs
    record { size = refl; group = refl; same_instance = refl }) in
    leads_behind qs w0 w2 c.set_signal.new.frame c.set_signal.new.world c.set_signal.result _ _
    (signal_goes k h.spot c.args.direction c.args.d.now c.in_ok-number.number
    c.in_ok-dims.dims.items (state_of f w0 qs) (state_of f c.dims_in.new.world qs)
    (state_of c.declare_signal.new.frame w2 qs) (value.Given c.in-Given.arrow c.in-Given.e)
    c.in_ok-number.ensures dims declared c.in-Given.is)
    (c.in_ok-declare_signal.ensures.constraints
    ∙ ap (λ (x : Kept). x.constraints) (c.in_ok-dims.ensures.keeps m))
    (c.set_signal.ensures m [] qs shaded)
