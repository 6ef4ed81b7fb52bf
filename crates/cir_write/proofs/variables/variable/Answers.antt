use Rattle.std.proofs.Common.{[], ◌∙◌, Ok, ap}
use Rattle.cir_ast.specs.Tree.{bare_value, bare_variable}
use Rattle.cir_evaluate.specs.Within.{at_spot}
use Rattle.cir_steps.specs.Emission.{emit_known}
use Rattle.cir_steps.specs.Emit.{emit_initial}
use Rattle.cir_write.specs.Declarations.{declared_variable}
use Rattle.cir_make.specs.Emits.{go_on}
use Rattle.cir_make.specs.Means.{emitting_in}
use Rattle.cir_write.proofs.Declaring.{variable_parts}
use Rattle.cir_make.proofs.Going.{emits_as, emits_exit, emits_next, quiet_is}
use Rattle.cir_write.proofs.variables.variable.Goals as goal

pub returns-in_err-declare : goal.returns-in_err-declare
returns-in_err-declare g c = λ m d shows.
    let b = c.args.body.now in
    let q = emitting_in b m in
    let w = at_spot b.context.now c.args.spot in
    let x = bare_variable c.args.v.now in
    let j = c.declare.new.inside in
    let v = c.declare.new.whole in
    let r = c.from_residual.result in
    emits_as m.first j v r _ _
    (ap (λ z. go_on d (λ x. z)) (variable_parts q w x d.state))
    (emits_exit m.first j v r _ d (emit_known (declared_variable q.context w x))
    (emit_initial q w x.meant x.value) c.from_residual.ensures.1
    (c.in_err-declare.ensures m d shows))

pub returns-in-None : goal.returns-in-None
returns-in-None g c = λ m d shows.
    let b = c.args.body.now in
    let q = emitting_in b m in
    let w = at_spot b.context.now c.args.spot in
    let x = bare_variable c.args.v.now in
    let j = c.declare.new.inside in
    let v = c.declare.new.whole in
    emits_as m.first j v (Ok (tt {0})) _ _
    (ap (λ z. go_on d (λ x. z)) (variable_parts q w x d.state))
    (emits_next m.first j j v v (Ok (tt {0})) d (emit_known (declared_variable q.context w x))
    (emit_initial q w x.meant x.value) (c.in_ok-declare.ensures m d shows)
    (λ y here. (
      y,
      ap (λ o. go_on y (emit_initial q w x.meant (bare_value o))) c.in-None.is ∙ quiet_is y,
      here,
    )))

pub returns-in-Some : goal.returns-in-Some
returns-in-Some g c = λ m d shows.
    let b = c.args.body.now in
    let q = emitting_in b m in
    let w = at_spot b.context.now c.args.spot in
    let x = bare_variable c.args.v.now in
    let j = c.set.new.inside in
    let v = c.set.new.whole in
    let r = c.set.result in
    emits_as m.first j v r _ _
    (ap (λ z. go_on d (λ x. z)) (variable_parts q w x d.state))
    (emits_next m.first c.declare.new.inside j c.declare.new.whole v r d
    (emit_known (declared_variable q.context w x))
    (emit_initial q w x.meant x.value) (c.in_ok-declare.ensures m d shows)
    (λ y here. emits_as m.first j v r _ _
    (ap (λ o. go_on y (emit_initial q w x.meant (bare_value o))) c.in-Some.is)
    (c.set.ensures m [] y tt here)))
