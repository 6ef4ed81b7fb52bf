use Rattle.std.proofs.Common.{ap}
use Rattle.cir_ast.specs.Tree.{bare_simple}
use Rattle.cir_ast.specs.Program.{bare_program}
use Rattle.cir_lift.specs.Turned.{turned}
use Rattle.cir_meaning.specs.Anonymous.{lift_simple}
use Rattle.cir_meaning.specs.Frame.{State}
use Rattle.cir_make.specs.Emits.{go_on}
use Rattle.cir_make.specs.Means.{emitting_in}
use Rattle.cir_make.proofs.Going.{emits_as}
use Rattle.cir_body.proofs.Lifted.{lifting_emits, plain_emits}
use Rattle.cir_body.proofs.simple.simple.Goals as goal

pub returns-then-not-holds : goal.returns-then-not-holds
returns-then-not-holds g c = λ m d shows.
    let b = c.args.body.now in
    let a = bare_simple c.args.form.now in
    emits_as m.first c.execute_counted.new.inside c.execute_counted.new.whole
    c.execute_counted.result _ _
    (ap (λ z. go_on d (λ x. z)) (plain_emits (emitting_in b m) c.args.spot a (turned a) d.state
    (c.holds.ensures c.if-not-holds.true)))
    (c.execute_counted.ensures m d shows)

pub returns : goal.returns
returns g c = λ m d shows.
    let b = c.args.body.now in
    let a = bare_simple c.args.form.now in
    emits_as m.first c.lifted-result.new.inside c.lifted-result.new.whole
    c.lifted-result.result _ _
    (ap (λ z. go_on d (λ x. z)) (lifting_emits (emitting_in b m) c.args.spot a
    c.args.inside.now.frame d.state c.in_ok-next.next c.in_ok-next.ensures.ok
    (ap (λ (s : State). s.frame.components) shows.state)))
    (c.lifted-result.ensures m
    (lift_simple (bare_program b.context.now.program.now) b.context.now.named_components a
    c.in_ok-next.next) d c.in_ok-l.ensures shows)
