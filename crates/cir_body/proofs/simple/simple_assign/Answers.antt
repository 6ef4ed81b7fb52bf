use Rattle.std.proofs.Common.{ap}
use Rattle.cir_ast.specs.Tree.{Assigned, bare_assign}
use Rattle.cir_ast.specs.Program.{bare_program}
use Rattle.cir_meaning.specs.Anonymous.{lift_simple}
use Rattle.cir_meaning.specs.Frame.{State}
use Rattle.cir_steps.specs.Emit.{emit_counted, emit_execute}
use Rattle.cir_make.specs.Emits.{go_on}
use Rattle.cir_make.specs.Means.{emitting_in}
use Rattle.cir_body.proofs.Executing.{counted_ends}
use Rattle.cir_make.proofs.Going.{emits_as, emits_exit, emits_next}
use Rattle.cir_body.proofs.Lifted.{lifting_emits, plain_emits}
use Rattle.cir_body.proofs.simple.simple_assign.Goals as goal

pub returns-in_err-assigned : goal.returns-in_err-assigned
returns-in_err-assigned g c = λ m d shows.
    let p = m.first in
    let q = emitting_in c.args.body.now m in
    let a = Assigned (bare_assign c.args.assign.now) in
    let j = c.assigned.new.inside in
    let v = c.assigned.new.whole in
    let r = c.from_residual.result in
    emits_as p j v r _ _
    (ap (λ z. go_on d (λ x. z)) (plain_emits q c.args.spot a a d.state
    (c.assign_holds.ensures c.if-not-assign_holds.true)))
    (emits_exit p j v r _ d (emit_execute q c.args.spot a) (emit_counted q c.args.spot)
    c.from_residual.ensures.1 (c.in_err-assigned.ensures m d shows))

pub returns-then-not-assign_holds : goal.returns-then-not-assign_holds
returns-then-not-assign_holds g c = λ m d shows.
    let p = m.first in
    let q = emitting_in c.args.body.now m in
    let a = Assigned (bare_assign c.args.assign.now) in
    let j = c.assigned.new.inside in
    let v = c.assigned.new.whole in
    emits_as p j _ c.counted.result _ _
    (ap (λ z. go_on d (λ x. z)) (plain_emits q c.args.spot a a d.state
    (c.assign_holds.ensures c.if-not-assign_holds.true)))
    (emits_next p j j v _ c.counted.result d (emit_execute q c.args.spot a)
    (emit_counted q c.args.spot) (c.in_ok-assigned.ensures m d shows)
    (λ y here. counted_ends q c.args.spot p j v y here c.counted.new.world c.counted.result
    (c.counted.ensures.value j.frame _) c.counted.ensures.keeps))

pub returns : goal.returns
returns g c = λ m d shows.
    let b = c.args.body.now in
    let q = emitting_in b m in
    let a = Assigned (bare_assign c.args.assign.now) in
    emits_as m.first c.lifted-result.new.inside c.lifted-result.new.whole
    c.lifted-result.result _ _
    (ap (λ z. go_on d (λ x. z)) (lifting_emits q c.args.spot a c.args.inside.now.frame d.state
    c.in_ok-next.next c.in_ok-next.ensures.ok
    (ap (λ (s : State). s.frame.components) shows.state)))
    (c.lifted-result.ensures m
    (lift_simple (bare_program b.context.now.program.now) b.context.now.named_components a
    c.in_ok-next.next) d c.in_ok-l.ensures shows)
