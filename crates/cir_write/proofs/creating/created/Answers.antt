use Rattle.std.proofs.Common.{◌∙◌, [], ap, sym}
use Rattle.cir_ast.specs.Tree.{bare, done}
use Rattle.cir_meaning.specs.Declaring.{declare_component}
use Rattle.cir_meaning.specs.Frame.{State}
use Rattle.cir_evaluate.specs.Within.{at_spot}
use Rattle.cir_arrays.proofs.Exits.{exits}
use Rattle.cir_steps.specs.Emission.{behind, known_in, with_state}
use Rattle.cir_steps.specs.Emit.{emit_create}
use Rattle.cir_make.specs.Emits.{go_on}
use Rattle.cir_make.specs.Means.{emitting_in}
use Rattle.cir_make.specs.Shows.{equations_in}
use Rattle.cir_write.proofs.Creations.{still_listed}
use Rattle.cir_make.proofs.Going.{emits_as, emits_refused}
use Rattle.cir_make.proofs.Leading.{kept_frame, kept_state}
use Rattle.cir_write.proofs.creating.created.Goals as goal

pub returns-in_err-n : goal.returns-in_err-n
returns-in_err-n g c = λ m d shows.
    let q = emitting_in c.args.body.now m in
    let w = at_spot c.args.body.now.context.now c.args.spot in
    emits_refused m.first _ _ c.from_residual.result _ _ c.from_residual.ensures.1
    (exits _ _ _ ((rw c.here-here.ensures at c.in_err-n.ensures) (λ n. emit_create q w n done
    (bare c.args.e.now) (with_state (declare_component n c.args.name.now [] (known_in d.state))
    d.state))))

pub returns : goal.returns
returns g c = λ m d shows.
    let q = emitting_in c.args.body.now m in
    let w = at_spot c.args.body.now.context.now c.args.spot in
    let n = c.in_ok-n.n in
    let name = c.args.name.now in
    let e = bare c.args.e.now in
    let i = c.args.inside.now in
    let w0 = c.args.whole.now in
    let h = c.declare_component.new.frame in
    let w1 = c.declare_component.new.world in
    let qs = equations_in d.state in
    let s = declare_component n name [] (known_in d.state) in
    let x = with_state s d.state in
    let declared = rw (c.as_slice.ensures, c.new-no_dims.ensures.items)
    at (c.in_ok-declare_component.ensures.state qs) in
    emits_as m.first c.create.new.inside c.create.new.whole c.create.result _
    (go_on record { state = x; steps = d.steps } (emit_create q w n done e))
    (ap (λ z. behind d.steps z) ((rw c.here-here.ensures at c.in_ok-n.ensures) (λ n. emit_create q w
    n done e (with_state (declare_component n name [] (known_in d.state)) d.state))))
    (c.create.ensures m record { state = x; steps = d.steps } record {
      state = ap (λ (z : State). declare_component n name [] z) shows.state ∙ sym declared;
      are_listed = still_listed qs w0.world w1 c.in_ok-declare_component.ensures.constraints
          shows.are_listed;
      kept = kept_state m.first h i.cells w0.made d.state s d.steps
          (kept_frame m.first i.frame h i.cells w0.made d.state d.steps record {
            variables = ap (λ (z : State). z.frame.variables) declared;
            parts = ap (λ (z : State). z.frame.parts) declared;
          } shows.kept);
    })
