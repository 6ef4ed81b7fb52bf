use Rattle.std.proofs.Common.{◌∙◌, ap, sym}
use Rattle.std.specs.Prelude.{map}
use Rattle.cir_ast.specs.declared.program.Meant.{Meant}
use Rattle.cir_ast.specs.declared.marked.Simple.TheVariants.{Components}
use Rattle.cir_ast.specs.Tree.{Left, as_accessors, bare, bare_component, bare_simple, bare_source}
use Rattle.cir_ast.specs.Tree.{bare_target}
use Rattle.cir_ast.proofs.Rows.{accessors_are}
use Rattle.cir_meaning.specs.Simple.{component_declaration}
use Rattle.cir_evaluate.specs.Within.{at_spot}
use Rattle.cir_lift.specs.Turned.{turned}
use Rattle.cir_steps.specs.Emission.{emit_known}
use Rattle.cir_steps.specs.Emit.{emit_each, emit_execute, emit_set_signal}
use Rattle.cir_make.specs.Emits.{go_on}
use Rattle.cir_make.specs.Means.{emitting_in}
use Rattle.cir_make.proofs.Going.{emits_as}
use Rattle.cir_body.proofs.Slots.{tuple_emits}
use Rattle.cir_body.proofs.simple.execute.Goals as goal

pub returns-in-Components-Declared : goal.returns-in-Components-Declared
returns-in-Components-Declared g c = λ m d shows.
    let b = c.args.body.now in
    let q = emitting_in b m in
    emits_as m.first c.components.new.inside c.components.new.whole
    c.components.result _ _
    (ap (λ x. go_on d (emit_execute q c.args.spot (turned (bare_simple x))))
    (c.in-Components-Declared.is
    ∙ ap (λ x. Components x)
    (rw c.in-Components-Declared.is at c.in-Components-Declared.field-0-is))
    ∙ ap (λ cs. go_on d (emit_each (λ x. emit_known (component_declaration q.context
    (at_spot b.context.now c.args.spot) x)) (map bare_component cs)))
    (sym c.as_slice-in-Components-Declared.ensures))
    (c.components.ensures m d shows)

pub returns-in-Components-Created : goal.returns-in-Components-Created
returns-in-Components-Created g c = λ m d shows.
    let b = c.args.body.now in
    let q = emitting_in b m in
    emits_as m.first c.created.new.inside c.created.new.whole c.created.result _ _
    (ap (λ x. go_on d (emit_execute q c.args.spot (turned (bare_simple x))))
    (c.in-Components-Created.is
    ∙ ap (λ x. Components x)
    (rw c.in-Components-Created.is at c.in-Components-Created.field-0-is)))
    (c.created.ensures m d shows)

pub returns-in-Constrain : goal.returns-in-Constrain
returns-in-Constrain g c = λ m d shows.
    let b = c.args.body.now in
    let q = emitting_in b m in
    emits_as m.first c.equal.new.inside c.equal.new.whole c.equal.result _ _
    (ap (λ x. go_on d (emit_execute q c.args.spot (turned (bare_simple x)))) c.in-Constrain.is)
    (c.equal.ensures m d shows)

pub returns-in-Right : goal.returns-in-Right
returns-in-Right g c = λ m d shows.
    let b = c.args.body.now in
    let q = emitting_in b m in
    let p = c.in-Right.place in
    let e = bare c.in-Right.value in
    emits_as m.first c.set_signal.new.inside c.set_signal.new.whole c.set_signal.result _ _
    (ap (λ x. go_on d (emit_execute q c.args.spot (turned (bare_simple x)))) c.in-Right.is
    ∙ ap (λ a. go_on d (emit_set_signal q (at_spot b.context.now c.args.spot)
    (Left p.name p.meant a c.in-Right.arrow e) p.meant a c.in-Right.arrow e))
    (accessors_are Meant p.accessors ∙ ap (λ l. as_accessors l) (sym c.as_slice-in-Right.ensures)))
    (c.set_signal.ensures m p.name d shows)

pub returns-in-TargetLeft : goal.returns-in-TargetLeft
returns-in-TargetLeft g c = λ m d shows.
    let b = c.args.body.now in
    let q = emitting_in b m in
    let t = c.in-TargetLeft in
    emits_as m.first c.tuple.new.inside c.tuple.new.whole c.tuple.result _ _
    (ap (λ x. go_on d (emit_execute q c.args.spot (turned (bare_simple x)))) t.is
    ∙ ap (λ z. go_on d (λ x. z)) (tuple_emits q (at_spot b.context.now c.args.spot) t.arrow
    (bare_target t.target) (bare_source t.source) d.state))
    (c.tuple.ensures m d shows)

pub returns-in-TargetRight : goal.returns-in-TargetRight
returns-in-TargetRight g c = λ m d shows.
    let b = c.args.body.now in
    let q = emitting_in b m in
    let t = c.in-TargetRight in
    emits_as m.first c.tuple-in-TargetRight.new.inside c.tuple-in-TargetRight.new.whole
    c.tuple-in-TargetRight.result _ _
    (ap (λ x. go_on d (emit_execute q c.args.spot (turned (bare_simple x)))) t.is
    ∙ ap (λ z. go_on d (λ x. z)) (tuple_emits q (at_spot b.context.now c.args.spot) t.arrow
    (bare_target t.target) (bare_source t.source) d.state))
    (c.tuple-in-TargetRight.ensures m d shows)
