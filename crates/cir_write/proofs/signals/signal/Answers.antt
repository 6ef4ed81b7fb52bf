use Rattle.std.proofs.Common.{[], ◌∙◌, Ok, ap}
use Rattle.cir_ast.specs.declared.marked.SignalValue.TheVariants as value
use Rattle.cir_ast.specs.Tree.{bare_signal, bare_signal_value}
use Rattle.cir_evaluate.specs.Within.{at_spot}
use Rattle.cir_steps.specs.Emit.{emit_initial_signal}
use Rattle.cir_write.specs.Declarations.{declared_signal}
use Rattle.cir_make.specs.Emits.{go_on}
use Rattle.cir_make.specs.Means.{emitting_in}
use Rattle.cir_write.proofs.Declaring.{signal_parts}
use Rattle.cir_make.proofs.Going.{emits_as, emits_exit, emits_next, quiet_is}
use Rattle.cir_write.proofs.signals.signal.Goals as goal

pub returns-in_err-declare : goal.returns-in_err-declare
returns-in_err-declare g c = λ m d shows.
    let b = c.args.body.now in
    let q = emitting_in b m in
    let w = at_spot b.context.now c.args.spot in
    let x = bare_signal c.args.d.now in
    let j = c.declare.new.inside in
    let v = c.declare.new.whole in
    let r = c.from_residual.result in
    emits_as m.first j v r _ _
    (ap (λ z. go_on d (λ x. z)) (signal_parts q c.args.spot c.args.direction x d.state))
    (emits_exit m.first j v r _ d (declared_signal q c.args.spot c.args.direction x)
    (emit_initial_signal q w x.meant x.value) c.from_residual.ensures.1
    (c.in_err-declare.ensures m d shows))

pub returns-in-Nothing : goal.returns-in-Nothing
returns-in-Nothing g c = λ m d shows.
    let b = c.args.body.now in
    let q = emitting_in b m in
    let w = at_spot b.context.now c.args.spot in
    let x = bare_signal c.args.d.now in
    let j = c.declare.new.inside in
    let v = c.declare.new.whole in
    emits_as m.first j v (Ok (tt {0})) _ _
    (ap (λ z. go_on d (λ x. z)) (signal_parts q c.args.spot c.args.direction x d.state))
    (emits_next m.first j j v v (Ok (tt {0})) d (declared_signal q c.args.spot c.args.direction x)
    (emit_initial_signal q w x.meant x.value) (c.in_ok-declare.ensures m d shows)
    (λ y here. (
      y,
      ap (λ o. go_on y (emit_initial_signal q w x.meant (bare_signal_value o))) c.in-Nothing.is
          ∙ quiet_is y,
      here,
    )))

pub returns-in-Given : goal.returns-in-Given
returns-in-Given g c = λ m d shows.
    let b = c.args.body.now in
    let q = emitting_in b m in
    let w = at_spot b.context.now c.args.spot in
    let x = bare_signal c.args.d.now in
    let j = c.set_signal.new.inside in
    let v = c.set_signal.new.whole in
    let r = c.set_signal.result in
    emits_as m.first j v r _ _
    (ap (λ z. go_on d (λ x. z)) (signal_parts q c.args.spot c.args.direction x d.state))
    (emits_next m.first c.declare.new.inside j c.declare.new.whole v r d
    (declared_signal q c.args.spot c.args.direction x)
    (emit_initial_signal q w x.meant x.value) (c.in_ok-declare.ensures m d shows)
    (λ y here. emits_as m.first j v r _ _
    (ap (λ o. go_on y (emit_initial_signal q w x.meant (bare_signal_value o))) c.in-Given.is)
    (c.set_signal.ensures m [] y here)))
