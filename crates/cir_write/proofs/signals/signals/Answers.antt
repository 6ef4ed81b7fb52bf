use Rattle.std.proofs.Common.{refl}
use Rattle.cir_ast.specs.Tree.{bare_signal}
use Rattle.cir_steps.specs.Emit.{emit_signal}
use Rattle.cir_make.specs.Means.{emitting_in}
use Rattle.cir_write.proofs.Each.{each_ends, each_goes, each_stops}
use Rattle.cir_write.proofs.signals.signals.Goals as goal

pub loop-d-init : goal.loop-d-init
loop-d-init g c = λ m d shows. (d, refl, shows)

pub returns-in_err-signal : goal.returns-in_err-signal
returns-in_err-signal g c = λ m d shows.
    let q = emitting_in c.args.body.now m in
    each_stops (emit_signal q c.args.spot c.args.direction) bare_signal c.args.declared.now m.first
    c.loop-d.inside c.loop-d.whole _ c.loop-d.d-index
    (c.loop-d.invariant m d shows) c.d-item.result c.signal.new.inside
    c.signal.new.whole c.from_residual.result _ c.loop-d-test.true c.d-item.is
    c.from_residual.ensures.1 (c.in_err-signal.ensures m)

pub loop-d-preserved : goal.loop-d-preserved
loop-d-preserved g c = λ m d shows.
    let q = emitting_in c.args.body.now m in
    each_goes (emit_signal q c.args.spot c.args.direction) bare_signal c.args.declared.now m.first
    c.loop-d.inside c.loop-d.whole _ c.loop-d.d-index
    (c.loop-d.invariant m d shows) c.d-item.result c.signal.new.inside
    c.signal.new.whole c.loop-d-test.true c.d-item.is (c.in_ok-signal.ensures m)

pub returns : goal.returns
returns g c = λ m d shows.
    let q = emitting_in c.args.body.now m in
    each_ends (emit_signal q c.args.spot c.args.direction) bare_signal c.args.declared.now m.first
    c.loop-d.inside c.loop-d.whole _ c.loop-d.d-index
    (c.loop-d.invariant m d shows) c.loop-d-test.false
