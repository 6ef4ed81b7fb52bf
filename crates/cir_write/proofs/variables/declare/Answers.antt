use Rattle.std.proofs.Common.{ℕ, [], Err, Ok, Result, refl}
use Rattle.cir_arrays.specs.declared.stop.Fault.{Fault}
use Rattle.cir_ast.specs.Tree.{bare_variable}
use Rattle.cir_evaluate.specs.Within.{at_spot}
use Rattle.cir_steps.specs.Emission.{with_state}
use Rattle.cir_write.specs.Declarations.{declared_variable}
use Rattle.cir_make.specs.Means.{emitting_in}
use Rattle.cir_make.specs.Shows.{IsKept, equations_in}
use Rattle.cir_make.proofs.Going.{emits_refused}
use Rattle.cir_make.proofs.Leading.{kept_state, led_emits, none_more}
use Rattle.cir_write.proofs.Sourcing.{kept_declared}
use Rattle.cir_write.proofs.variables.declare.Goals as goal

pub returns-in_err-n : goal.returns-in_err-n
returns-in_err-n g c = λ m d shows.
    let k = (emitting_in c.args.body.now m).context in
    let w = at_spot c.args.body.now.context.now c.args.spot in
    let i = c.args.inside.now in
    let w0 = c.args.whole.now in
    let f = c.declare_elements.new.frame in
    let e = c.in_err-n.field-0.0 in
    let r : Result ℕ Fault = Err e in
    emits_refused m.first _ _ c.from_residual.result e _ c.from_residual.ensures.1
    (led_emits m.first i record { frame = f; cells = i.cells } w0
    record w0 { world = c.declare_elements.new.world } d
    (declared_variable k w (bare_variable c.args.v.now)) with_state (λ s x. []) shows r
    ((rw c.here-here.ensures at c.in_err-n.ensures.leads) m.means (equations_in d.state) refl)
    (λ s. refl) tt)

pub returns : goal.returns
returns g c = λ m d shows.
    let k = (emitting_in c.args.body.now m).context in
    let w = at_spot c.args.body.now.context.now c.args.spot in
    let i = c.args.inside.now in
    let w0 = c.args.whole.now in
    let f = c.declare_elements.new.frame in
    let cells = record (i.cells) { variables = c.find.new.variables } in
    led_emits m.first i record { frame = f; cells = cells } w0
    record w0 { world = c.declare_elements.new.world } d
    (declared_variable k w (bare_variable c.args.v.now)) with_state (λ s x. []) shows (Ok (tt {0}))
    ((rw c.here-here.ensures at c.in_ok-n.ensures.leads) m.means (equations_in d.state) refl)
    (λ s. refl)
    (λ es. kept_state m.first f cells w0.made d.state _ _
    (none_more (λ l. IsKept m.first f cells w0.made d.state l) d.steps
    (kept_declared m.first i.frame f i.cells c.find.new.variables w0.made d.state d.steps
    c.in_ok-n.n c.in_ok-n.ensures.declared c.find.ensures shows.kept)))
