use Rattle.std.proofs.Common.{Ok, ap}
use Rattle.cir_ast.specs.Tree.{bare}
use Rattle.cir_meaning.specs.Simple.{dropped}
use Rattle.cir_meaning.specs.Tried.{next}
use Rattle.cir_evaluate.specs.Within.{at_spot}
use Rattle.cir_arrays.proofs.Exits.{exits}
use Rattle.cir_execute.proofs.Scanning.{kept_constraints}
use Rattle.cir_make.specs.Means.{emitting_in}
use Rattle.cir_make.specs.Shows.{equations_in}
use Rattle.cir_make.proofs.Going.{emits_refused, known_emits, known_stops}
use Rattle.cir_body.proofs.simple.dropped.Goals as goal

pub returns-in_err-_value : goal.returns-in_err-_value
returns-in_err-_value g c = λ m d shows.
    let k = (emitting_in c.args.body.now m).context in
    let w = at_spot c.args.body.now.context.now c.args.spot in
    let i = c.args.inside.now in
    let w0 = c.args.whole.now in
    emits_refused m.first i _ c.from_residual.result _ _ c.from_residual.ensures.1
    (known_stops m.first i w0 d w0.world (dropped k w (bare c.args.e.now)) shows _
    (exits _ _ _ ((rw c.here-here.ensures at c.in_err-_value.ensures.value) m.means
    (equations_in d.state))))

pub returns : goal.returns
returns g c = λ m d shows.
    let k = (emitting_in c.args.body.now m).context in
    let w = at_spot c.args.body.now.context.now c.args.spot in
    let i = c.args.inside.now in
    let w0 = c.args.whole.now in
    known_emits m.first i w0 d c.datum.new.world (dropped k w (bare c.args.e.now)) shows
    (ap (λ z. next z (λ (d, s1). Ok s1)) ((rw c.here-here.ensures at c.in_ok-_value.ensures.value)
    m.means (equations_in d.state)))
    (kept_constraints c.datum.new.world w0.world
    ((rw c.here-here.ensures at c.in_ok-_value.ensures.keeps) m.means))
