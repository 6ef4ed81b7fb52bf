use Rattle.std.proofs.Common.{ℕ, Err, Result, ap, refl}
use Rattle.cir_arrays.specs.declared.stop.Fault.{Fault}
use Rattle.cir_ast.specs.Tree.{bare_simple}
use Rattle.cir_lift.specs.Turned.{turned}
use Rattle.cir_steps.specs.Emit.{emit_execute_counted}
use Rattle.cir_make.specs.Emits.{go_on}
use Rattle.cir_make.specs.Means.{emitting_in}
use Rattle.cir_write.proofs.Each.{each_ends, each_from, each_goes, each_stops}
use Rattle.cir_make.proofs.Going.{emits_as, emits_exit, emits_next}
use Rattle.cir_body.proofs.Lifted.{lifted_emits}
use Rattle.cir_body.proofs.simple.lifted.Goals as goal

pub loop-before-init : goal.loop-before-init
loop-before-init g c = λ m d shows. (d, refl, shows)

pub returns-in_err-execute_counted : goal.returns-in_err-execute_counted
returns-in_err-execute_counted g c = λ m l d is shows.
    let p = m.first in
    let q = emitting_in c.args.body.now m in
    let items = c.as_slice-before-items.result.now in
    let j = c.execute_counted.new.inside in
    let v = c.execute_counted.new.whole in
    let r = c.from_residual.result in
    let f = emit_execute_counted q c.args.spot in
    let e = c.in_err-execute_counted.field-0.0 in
    let stopped : Result ℕ Fault = Err e in
    emits_as p j v r _ _
    (ap (λ z. go_on d (λ x. z)) (lifted_emits q c.args.spot l c.args.l.now items d.state is
    c.as_slice-before-items.ensures.value))
    (emits_exit p j v r _ d (each_from f (λ y. turned (bare_simple y)) items 0)
    (f (turned (bare_simple c.args.l.now.value))) c.from_residual.ensures.1
    (each_stops f (λ y. turned (bare_simple y)) items p c.loop-before.inside c.loop-before.whole _
    c.loop-before.before-index (c.loop-before.invariant m d shows) c.before-item.result j v
    stopped e c.loop-before-test.true c.before-item.is refl
    (c.in_err-execute_counted.ensures m)))

pub loop-before-preserved : goal.loop-before-preserved
loop-before-preserved g c = λ m d shows.
    let q = emitting_in c.args.body.now m in
    each_goes (emit_execute_counted q c.args.spot) (λ y. turned (bare_simple y))
    c.as_slice-before-items.result.now m.first c.loop-before.inside
    c.loop-before.whole _ c.loop-before.before-index (c.loop-before.invariant m d shows)
    c.before-item.result c.execute_counted.new.inside c.execute_counted.new.whole
    c.loop-before-test.true c.before-item.is (c.in_ok-execute_counted.ensures m)

pub returns : goal.returns
returns g c = λ m l d is shows.
    let p = m.first in
    let q = emitting_in c.args.body.now m in
    let items = c.as_slice-before-items.result.now in
    let i = c.loop-before.inside in
    let w = c.loop-before.whole in
    let j = c.execute_counted-2.new.inside in
    let v = c.execute_counted-2.new.whole in
    let r = c.execute_counted-2.result in
    let f = emit_execute_counted q c.args.spot in
    emits_as p j v r _ _
    (ap (λ z. go_on d (λ x. z)) (lifted_emits q c.args.spot l c.args.l.now items d.state is
    c.as_slice-before-items.ensures.value))
    (emits_next p i j w v r d (each_from f (λ y. turned (bare_simple y)) items 0)
    (f (turned (bare_simple c.args.l.now.value)))
    (each_ends f (λ y. turned (bare_simple y)) items p i w _ c.loop-before.before-index
    (c.loop-before.invariant m d shows) c.loop-before-test.false)
    (λ y here. c.execute_counted-2.ensures m y here))
