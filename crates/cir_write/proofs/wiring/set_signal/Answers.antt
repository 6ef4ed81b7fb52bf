use Rattle.std.proofs.Common.{refl}
use Rattle.cir_ast.specs.Tree.{Left, as_accessors, bare}
use Rattle.cir_meaning.specs.Steps.{signal_cost}
use Rattle.cir_meaning.specs.Simple.{wired}
use Rattle.cir_meaning.specs.Tried.{next}
use Rattle.cir_meaning.specs.Writing.{signal_assignment, write_signal}
use Rattle.cir_evaluate.specs.Within.{at_spot}
use Rattle.cir_steps.specs.Emission.{with_state}
use Rattle.cir_steps.specs.Emit.{make_wiring}
use Rattle.cir_make.specs.Means.{emitting_in}
use Rattle.cir_make.specs.Shows.{equations_in}
use Rattle.cir_write.specs.Waiting.{wired_steps}
use Rattle.cir_make.proofs.Leading.{twice_emits}
use Rattle.cir_write.proofs.Wired.{wiring_is}
use Rattle.cir_write.proofs.wiring.set_signal.Goals as goal

pub returns : goal.returns
returns g c = λ m name d shows.
    let q = emitting_in c.args.body.now m in
    let k = q.context in
    let w = at_spot c.args.body.now.context.now c.args.spot in
    let x = c.args.w.now in
    let accessors = as_accessors x.accessors.now in
    let e = bare x.value.now in
    let written = Left name x.meant accessors x.arrow e in
    let qs = equations_in d.state in
    twice_emits m.first c.args.inside.now c.wire.new.inside c.args.whole.now c.wire.new.whole d
    (signal_assignment k w x.meant accessors e)
    (λ s a. next (write_signal k w x.arrow a) (wired k w (signal_cost k w written accessors e s)
    a.target.reach.places))
    (λ a s z. make_wiring q w written accessors e a s a.target.reach.places z)
    (λ a s z. with_state s z) (wired_steps k w written accessors e) shows c.wire.result
    (λ a s. wiring_is q w written accessors e a s a.target.reach.places d.state)
    ((rw c.here-here.ensures at c.wire.ensures.leads) m.means name qs refl) (λ a s. refl)
    (λ a is. (rw c.here-here.ensures at c.wire.ensures.kept) m.means name qs m.first d.state
    d.steps a refl shows.state is shows.kept)
