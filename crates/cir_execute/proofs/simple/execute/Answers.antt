use Rattle.std.proofs.Common.{◌∙◌, ap, refl, sym}
use Rattle.std.specs.Prelude.{map}
use Rattle.cir_ast.specs.declared.program.Meant.{Meant}
use Rattle.cir_ast.specs.declared.marked.Simple.TheVariants.{Components}
use Rattle.cir_ast.specs.Tree.{Left, as_accessors, bare, bare_component, bare_simple, bare_source}
use Rattle.cir_ast.specs.Tree.{bare_target}
use Rattle.cir_ast.proofs.Rows.{accessors_are}
use Rattle.cir_meaning.specs.Simple as S
use Rattle.cir_frame.specs.Shown.{state_of}
use Rattle.cir_evaluate.specs.Within.{at_spot}
use Rattle.cir_lift.specs.Turned.{turned}
use Rattle.cir_create.specs.Makes.{context_in}
use Rattle.cir_assign.proofs.Stepping.{leads_as}
use Rattle.cir_execute.proofs.Tuples.{tuple_of}
use Rattle.cir_execute.proofs.simple.execute.Goals as goal

pub returns-in-Components-Declared : goal.returns-in-Components-Declared
returns-in-Components-Declared g c =
    let b = c.args.body.now in
    λ m qs.
    let k = context_in b m in
    let s = state_of c.args.frame.now c.args.world.now qs in
    leads_as qs c.args.world.now c.components.new.frame c.components.new.world
    c.components.result _ _
    (ap (λ x. S.execute k c.args.spot (turned (bare_simple x)) s)
    (c.in-Components-Declared.is ∙ ap (λ x. Components x)
    (rw c.in-Components-Declared.is at c.in-Components-Declared.field-0-is))
    ∙ ap (λ cs. S.each (S.component_declaration k (at_spot b.context.now c.args.spot))
    (map bare_component cs) s) (sym c.as_slice-in-Components-Declared.ensures))
    ((rw c.here-here.ensures at c.components.ensures) m.means qs refl)

pub returns-in-Components-Created : goal.returns-in-Components-Created
returns-in-Components-Created g c =
    let b = c.args.body.now in
    λ m qs.
    let k = context_in b m in
    let s = state_of c.args.frame.now c.args.world.now qs in
    leads_as qs c.args.world.now c.created.new.frame c.created.new.world c.created.result _ _
    (ap (λ x. S.execute k c.args.spot (turned (bare_simple x)) s)
    (c.in-Components-Created.is ∙ ap (λ x. Components x)
    (rw c.in-Components-Created.is at c.in-Components-Created.field-0-is)))
    (c.created.ensures m qs)

pub returns-in-Constrain : goal.returns-in-Constrain
returns-in-Constrain g c =
    let b = c.args.body.now in
    λ m qs.
    let k = context_in b m in
    let s = state_of c.args.frame.now c.args.world.now qs in
    leads_as qs c.args.world.now c.args.frame.now c.equal.new.world c.equal.result _ _
    (ap (λ x. S.execute k c.args.spot (turned (bare_simple x)) s) c.in-Constrain.is)
    ((rw c.here-here.ensures at c.equal.ensures) m.means qs refl)

pub returns-in-Right : goal.returns-in-Right
returns-in-Right g c =
    let b = c.args.body.now in
    let p = c.in-Right.place in
    let e = bare c.in-Right.value in
    λ m qs.
    let k = context_in b m in
    let s = state_of c.args.frame.now c.args.world.now qs in
    leads_as qs c.args.world.now c.set_signal.new.frame c.set_signal.new.world
    c.set_signal.result _ _
    (ap (λ x. S.execute k c.args.spot (turned (bare_simple x)) s) c.in-Right.is
    ∙ ap (λ a. S.set_signal k (at_spot b.context.now c.args.spot) (Left p.name p.meant a
    c.in-Right.arrow e) p.meant a c.in-Right.arrow e s)
    (accessors_are Meant p.accessors ∙ ap (λ l. as_accessors l) (sym c.as_slice-in-Right.ensures)))
    ((rw c.here-here.ensures at c.set_signal.ensures) m.means p.name qs refl)

pub returns-in-TargetLeft : goal.returns-in-TargetLeft
returns-in-TargetLeft g c =
    let b = c.args.body.now in
    let t = c.in-TargetLeft in
    λ m qs.
    let k = context_in b m in
    let s = state_of c.args.frame.now c.args.world.now qs in
    leads_as qs c.args.world.now c.tuple.new.frame c.tuple.new.world c.tuple.result _ _
    (ap (λ x. S.execute k c.args.spot (turned (bare_simple x)) s) c.in-TargetLeft.is
    ∙ tuple_of k (at_spot b.context.now c.args.spot) t.arrow (bare_target t.target)
    (bare_source t.source) s)
    ((rw c.here-here.ensures at c.tuple.ensures) m.means qs refl)

pub returns-in-TargetRight : goal.returns-in-TargetRight
returns-in-TargetRight g c =
    let b = c.args.body.now in
    let t = c.in-TargetRight in
    λ m qs.
    let k = context_in b m in
    let s = state_of c.args.frame.now c.args.world.now qs in
    leads_as qs c.args.world.now c.tuple-in-TargetRight.new.frame c.tuple-in-TargetRight.new.world
    c.tuple-in-TargetRight.result _ _
    (ap (λ x. S.execute k c.args.spot (turned (bare_simple x)) s) c.in-TargetRight.is
    ∙ tuple_of k (at_spot b.context.now c.args.spot) t.arrow (bare_target t.target)
    (bare_source t.source) s)
    ((rw c.here-here.ensures at c.tuple-in-TargetRight.ensures) m.means qs refl)
