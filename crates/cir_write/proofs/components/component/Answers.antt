use Rattle.std.proofs.Common.{[], refl}
use Rattle.cir_ast.specs.Tree.{bare_component}
use Rattle.cir_meaning.specs.Simple as X
use Rattle.cir_evaluate.specs.Within.{at_spot}
use Rattle.cir_steps.specs.Emission.{with_state}
use Rattle.cir_make.specs.Means.{emitting_in}
use Rattle.cir_make.specs.Shows.{IsKept, equations_in}
use Rattle.cir_make.proofs.Leading.{kept_frame, kept_state, led_emits, none_more, on_ok}
use Rattle.cir_write.proofs.components.component.Goals as goal

pub returns : goal.returns
returns g c = λ m d shows.
    let k = (emitting_in c.args.body.now m).context in
    let w = at_spot c.args.body.now.context.now c.args.spot in
    let i = c.args.inside.now in
    let w0 = c.args.whole.now in
    let f = c.declare.new.frame in
    led_emits m.first i record { frame = f; cells = i.cells } w0
    record w0 { world = c.declare.new.world } d
    (X.component_declaration k w (bare_component c.args.c.now)) with_state (λ s x. []) shows
    c.declare.result ((rw c.here-here.ensures at c.declare.ensures.leads) m.means (equations_in
    d.state) refl)
    (λ s. refl)
    (on_ok c.declare.result _ _
    (λ same es. kept_state m.first f i.cells w0.made d.state _ _
    (none_more (λ l. IsKept m.first f i.cells w0.made d.state l) d.steps
    (kept_frame m.first i.frame f i.cells w0.made d.state d.steps same shows.kept)))
    c.declare.ensures.same)
