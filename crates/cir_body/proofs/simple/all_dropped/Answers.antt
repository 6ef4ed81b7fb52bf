use Rattle.std.proofs.Common.{refl}
use Rattle.cir_ast.specs.Tree.{bare}
use Rattle.cir_meaning.specs.Simple.{dropped}
use Rattle.cir_evaluate.specs.Within.{at_spot}
use Rattle.cir_steps.specs.Emission.{emit_known}
use Rattle.cir_make.specs.Means.{emitting_in}
use Rattle.cir_write.proofs.Each.{each_ends, each_goes, each_stops}
use Rattle.cir_body.proofs.simple.all_dropped.Goals as goal

pub loop-e-init : goal.loop-e-init
loop-e-init g c = λ m d shows. (d, refl, shows)

pub returns-in_err-dropped : goal.returns-in_err-dropped
returns-in_err-dropped g c = λ m d shows.
    let q = emitting_in c.args.body.now m in
    each_stops (λ x. emit_known (dropped q.context (at_spot c.args.body.now.context.now
    c.args.spot) x)) bare c.args.es.now m.first
    c.loop-e.inside c.loop-e.whole _ c.loop-e.e-index
    (c.loop-e.invariant m d shows) c.e-item.result c.dropped.new.inside
    c.dropped.new.whole c.from_residual.result _ c.loop-e-test.true c.e-item.is
    c.from_residual.ensures.1 (c.in_err-dropped.ensures m)

pub loop-e-preserved : goal.loop-e-preserved
loop-e-preserved g c = λ m d shows.
    let q = emitting_in c.args.body.now m in
    each_goes (λ x. emit_known (dropped q.context (at_spot c.args.body.now.context.now c.args.spot)
    x)) bare c.args.es.now m.first
    c.loop-e.inside c.loop-e.whole _ c.loop-e.e-index
    (c.loop-e.invariant m d shows) c.e-item.result c.dropped.new.inside
    c.dropped.new.whole c.loop-e-test.true c.e-item.is (c.in_ok-dropped.ensures m)

pub returns : goal.returns
returns g c = λ m d shows.
    let q = emitting_in c.args.body.now m in
    each_ends (λ x. emit_known (dropped q.context (at_spot c.args.body.now.context.now c.args.spot)
    x)) bare c.args.es.now m.first
    c.loop-e.inside c.loop-e.whole _ c.loop-e.e-index
    (c.loop-e.invariant m d shows) c.loop-e-test.false
