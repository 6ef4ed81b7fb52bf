use Rattle.std.proofs.Common.{refl}
use Rattle.cir_ast.specs.Tree.{bare_component}
use Rattle.cir_meaning.specs.Simple.{component_declaration}
use Rattle.cir_evaluate.specs.Within.{at_spot}
use Rattle.cir_steps.specs.Emission.{emit_known}
use Rattle.cir_make.specs.Means.{emitting_in}
use Rattle.cir_write.proofs.Each.{each_ends, each_goes, each_stops}
use Rattle.cir_write.proofs.components.components.Goals as goal

pub loop-c-init : goal.loop-c-init
loop-c-init g c = λ m d shows. (d, refl, shows)

pub returns-in_err-component : goal.returns-in_err-component
returns-in_err-component g c = λ m d shows.
    let q = emitting_in c.args.body.now m in
    each_stops (λ x. emit_known (component_declaration q.context (at_spot
    c.args.body.now.context.now c.args.spot) x)) bare_component c.args.cs.now m.first
    c.loop-c.inside c.loop-c.whole _ c.loop-c.c-index
    (c.loop-c.invariant m d shows) c.c-item.result c.component.new.inside
    c.component.new.whole c.from_residual.result _ c.loop-c-test.true c.c-item.is
    c.from_residual.ensures.1 (c.in_err-component.ensures m)

pub loop-c-preserved : goal.loop-c-preserved
loop-c-preserved g c = λ m d shows.
    let q = emitting_in c.args.body.now m in
    each_goes (λ x. emit_known (component_declaration q.context (at_spot
    c.args.body.now.context.now c.args.spot) x)) bare_component c.args.cs.now m.first
    c.loop-c.inside c.loop-c.whole _ c.loop-c.c-index
    (c.loop-c.invariant m d shows) c.c-item.result c.component.new.inside
    c.component.new.whole c.loop-c-test.true c.c-item.is (c.in_ok-component.ensures m)

pub returns : goal.returns
returns g c = λ m d shows.
    let q = emitting_in c.args.body.now m in
    each_ends (λ x. emit_known (component_declaration q.context (at_spot
    c.args.body.now.context.now c.args.spot) x)) bare_component c.args.cs.now m.first
    c.loop-c.inside c.loop-c.whole _ c.loop-c.c-index
    (c.loop-c.invariant m d shows) c.loop-c-test.false
