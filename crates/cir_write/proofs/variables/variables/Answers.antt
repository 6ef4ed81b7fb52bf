use Rattle.std.proofs.Common.{refl}
use Rattle.cir_ast.specs.Tree.{bare_variable}
use Rattle.cir_evaluate.specs.Within.{at_spot}
use Rattle.cir_steps.specs.Emit.{emit_variable}
use Rattle.cir_make.specs.Means.{emitting_in}
use Rattle.cir_write.proofs.Each.{each_ends, each_goes, each_stops}
use Rattle.cir_write.proofs.variables.variables.Goals as goal

pub loop-v-init : goal.loop-v-init
loop-v-init g c = λ m d shows. (d, refl, shows)

pub returns-in_err-variable : goal.returns-in_err-variable
returns-in_err-variable g c = λ m d shows.
    let q = emitting_in c.args.body.now m in
    each_stops (emit_variable q (at_spot c.args.body.now.context.now c.args.spot)) bare_variable
    c.args.vs.now m.first
    c.loop-v.inside c.loop-v.whole _ c.loop-v.v-index
    (c.loop-v.invariant m d shows) c.v-item.result c.variable.new.inside
    c.variable.new.whole c.from_residual.result _ c.loop-v-test.true c.v-item.is
    c.from_residual.ensures.1 (c.in_err-variable.ensures m)

pub loop-v-preserved : goal.loop-v-preserved
loop-v-preserved g c = λ m d shows.
    let q = emitting_in c.args.body.now m in
    each_goes (emit_variable q (at_spot c.args.body.now.context.now c.args.spot)) bare_variable
    c.args.vs.now m.first
    c.loop-v.inside c.loop-v.whole _ c.loop-v.v-index
    (c.loop-v.invariant m d shows) c.v-item.result c.variable.new.inside
    c.variable.new.whole c.loop-v-test.true c.v-item.is (c.in_ok-variable.ensures m)

pub returns : goal.returns
returns g c = λ m d shows.
    let q = emitting_in c.args.body.now m in
    each_ends (emit_variable q (at_spot c.args.body.now.context.now c.args.spot)) bare_variable
    c.args.vs.now m.first
    c.loop-v.inside c.loop-v.whole _ c.loop-v.v-index
    (c.loop-v.invariant m d shows) c.loop-v-test.false
