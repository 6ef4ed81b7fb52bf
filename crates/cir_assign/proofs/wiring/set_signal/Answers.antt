use Rattle.std.proofs.Common.{◌∙◌, ap, refl}
use Rattle.cir_ast.specs.Tree.{Left, as_accessors, bare}
use Rattle.cir_arrays.specs.Shown.{datum_of}
use Rattle.cir_frame.specs.Shown.{state_of}
use Rattle.cir_evaluate.specs.Within.{Kept, context_at, where_at}
use Rattle.cir_assign.proofs.Assembled.{target_refused, value_refused}
use Rattle.cir_assign.proofs.Chained.{uncounted_kept}
use Rattle.cir_assign.proofs.Stepping.{leads_behind, leads_refused}
use Rattle.cir_assign.proofs.wiring.set_signal.Goals as goal

pub returns-in_err-value : goal.returns-in_err-value
returns-in_err-value g c = λ m name qs shaded.
    leads_refused qs c.args.world.now c.args.frame.now c.datum.new.world c.from_residual.result _ _
    c.from_residual.ensures.1
    (value_refused (context_at c.args.here.now m) (where_at c.args.here.now)
    (Left name c.args.w.now.meant (as_accessors c.args.w.now.accessors.now) c.args.w.now.arrow
    (bare c.args.w.now.value.now)) c.args.w.now.meant
    (as_accessors c.args.w.now.accessors.now) c.args.w.now.arrow (bare c.args.w.now.value.now)
    (state_of c.args.frame.now c.args.world.now qs) _
    (rw shaded at (c.in_err-value.ensures.value m qs)))

pub returns-in_err-target : goal.returns-in_err-target
returns-in_err-target g c = λ m name qs shaded.
    leads_refused qs c.args.world.now c.args.frame.now c.target_in.new.world
    c.from_residual-in_err-target.result _ _ c.from_residual-in_err-target.ensures.1
    (target_refused (context_at c.args.here.now m) (where_at c.args.here.now)
    (Left name c.args.w.now.meant (as_accessors c.args.w.now.accessors.now) c.args.w.now.arrow
    (bare c.args.w.now.value.now))
    c.args.w.now.meant (as_accessors c.args.w.now.accessors.now) c.args.w.now.arrow
    (bare c.args.w.now.value.now) (state_of c.args.frame.now c.args.world.now qs) _
    (datum_of c.in_ok-value.value) (state_of c.args.frame.now c.datum.new.world qs)
    (rw shaded at (c.in_ok-value.ensures.value m qs))
    (c.in_err-target.ensures.value m qs shaded))

pub returns : goal.returns
returns g c = λ m name qs shaded.
    let w0 = c.args.world.now in
    let w1 = c.datum.new.world in
    let w2 = c.target_in.new.world in
    let f = c.args.frame.now in
    let found = c.in_ok-target.ensures.value m qs shaded in
    leads_behind qs w0 w2 c.set_elements.new.frame c.set_elements.new.world
    c.set_elements.result _ _ refl
    (ap (λ (x : Kept). x.constraints) (c.in_ok-target.ensures.keeps m)
    ∙ ap (λ (x : Kept). x.constraints) (c.in_ok-value.ensures.keeps m))
    (c.set_elements.ensures m name qs (state_of f w0 qs) (state_of f w1 qs) found.0 shaded
    (rw shaded at (c.in_ok-value.ensures.value m qs)) found.1 found.2
    (uncounted_kept f w1 w2 qs (c.in_ok-target.ensures.keeps m)
    ∙ uncounted_kept f w0 w1 qs (c.in_ok-value.ensures.keeps m)))
