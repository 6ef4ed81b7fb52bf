use Rattle.std.proofs.Common.{ap, map, refl}
use Rattle.cir_ast.specs.Tree.{Vars, bare_variable}
use Rattle.cir_evaluate.specs.Within.{at_spot}
use Rattle.cir_steps.specs.Emit.{emit_counted, emit_each, emit_variable}
use Rattle.cir_make.specs.Emits.{go_on}
use Rattle.cir_make.specs.Means.{emitting_in}
use Rattle.cir_body.proofs.Executing.{counted_ends}
use Rattle.cir_make.proofs.Going.{emits_as, emits_exit, emits_next}
use Rattle.cir_body.proofs.Lifted.{plain_emits}
use Rattle.cir_body.proofs.simple.simple_vars.Goals as goal

pub returns-in_err-variables : goal.returns-in_err-variables
returns-in_err-variables g c = λ m d shows.
    let p = m.first in
    let q = emitting_in c.args.body.now m in
    let vs = c.args.vars.now.variables in
    let j = c.variables.new.inside in
    let v = c.variables.new.whole in
    let r = c.from_residual.result in
    emits_as p j v r _ _
    (ap (λ z. go_on d (λ x. z)) (plain_emits q c.args.spot (Vars (map bare_variable vs))
    (Vars (map bare_variable vs)) d.state (λ _ first n. refl)))
    (emits_exit p j v r _ d
    (emit_each (emit_variable q (at_spot c.args.body.now.context.now c.args.spot))
    (map bare_variable vs)) (emit_counted q c.args.spot) c.from_residual.ensures.1
    ((rw c.as_slice.ensures at c.in_err-variables.ensures) m d shows))

pub returns : goal.returns
returns g c = λ m d shows.
    let p = m.first in
    let q = emitting_in c.args.body.now m in
    let vs = c.args.vars.now.variables in
    let j = c.variables.new.inside in
    let v = c.variables.new.whole in
    emits_as p j _ c.counted.result _ _
    (ap (λ z. go_on d (λ x. z)) (plain_emits q c.args.spot (Vars (map bare_variable vs))
    (Vars (map bare_variable vs)) d.state (λ _ first n. refl)))
    (emits_next p j j v _ c.counted.result d
    (emit_each (emit_variable q (at_spot c.args.body.now.context.now c.args.spot))
    (map bare_variable vs)) (emit_counted q c.args.spot)
    ((rw c.as_slice.ensures at c.in_ok-variables.ensures) m d shows)
    (λ y here. counted_ends q c.args.spot p j v y here c.counted.new.world c.counted.result
    (c.counted.ensures.value j.frame _) c.counted.ensures.keeps))
