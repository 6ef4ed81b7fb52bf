use Rattle.std.proofs.Common.{◌∙◌, refl}
use Rattle.cir_ast.specs.Tree.{bare_simple}
use Rattle.cir_meaning.specs.Simple.{execute_counted}
use Rattle.cir_frame.specs.Shown.{state_of}
use Rattle.cir_arrays.proofs.Exits.{exits}
use Rattle.cir_lift.specs.Turned.{turned}
use Rattle.cir_create.specs.Makes.{context_in}
use Rattle.cir_assign.proofs.Stepping.{leads_as, leads_exit, leads_next}
use Rattle.cir_create.proofs.Turns.{turn_goes, turns_end}
use Rattle.cir_execute.proofs.Going.{refusal}
use Rattle.cir_execute.proofs.Scanning.{each_first}
use Rattle.cir_execute.proofs.Lifting.{lifted_by}
use Rattle.cir_execute.proofs.simple.lifted.Goals as goal

pub loop-before-init : goal.loop-before-init
loop-before-init g c = λ m qs. (qs, refl, record { listed = λ s. s })

pub returns-in_err-execute_counted : goal.returns-in_err-execute_counted
returns-in_err-execute_counted g c =
    let items = c.as_slice-before-items.result.now in
    λ m x qs is.
    let k = context_in c.args.body.now m in
    let left = c.loop-before.invariant m qs in
    leads_as qs c.args.world.now c.execute_counted.new.frame c.execute_counted.new.world _ _ _
    (lifted_by k c.args.spot x c.args.l.now items
    (state_of c.args.frame.now c.args.world.now qs) is c.as_slice-before-items.ensures.value)
    (leads_exit qs c.args.world.now c.execute_counted.new.frame c.execute_counted.new.world _ _ _ _
    c.from_residual.ensures.1
    (refusal _ _ _
    (left.1 ∙ each_first (execute_counted k c.args.spot) (λ y. turned (bare_simple y)) items
    c.loop-before.before-index c.before-item.result
    (state_of c.loop-before.frame c.loop-before.world left.0) c.loop-before-test.true
    c.before-item.is)
    (exits _ _ _ (c.in_err-execute_counted.ensures m left.0))))

pub loop-before-preserved : goal.loop-before-preserved
loop-before-preserved g c = λ m qs.
    turn_goes (execute_counted (context_in c.args.body.now m) c.args.spot)
    (λ y. turned (bare_simple y)) c.as_slice-before-items.result.now c.loop-before.before-index
    c.before-item.result qs c.args.world.now c.loop-before.world c.execute_counted.new.world
    c.loop-before.frame c.execute_counted.new.frame _ c.loop-before-test.true c.before-item.is
    (c.loop-before.invariant m qs) (λ es. c.in_ok-execute_counted.ensures m es)

pub returns : goal.returns
returns g c =
    let items = c.as_slice-before-items.result.now in
    λ m x qs is.
    let k = context_in c.args.body.now m in
    leads_as qs c.args.world.now c.execute_counted-2.new.frame c.execute_counted-2.new.world _ _ _
    (lifted_by k c.args.spot x c.args.l.now items
    (state_of c.args.frame.now c.args.world.now qs) is c.as_slice-before-items.ensures.value)
    (leads_next qs c.args.world.now c.loop-before.world c.loop-before.frame
    c.execute_counted-2.new.frame c.execute_counted-2.new.world _ _ _
    (turns_end (execute_counted k c.args.spot) (λ y. turned (bare_simple y)) items
    c.loop-before.before-index qs c.args.world.now c.loop-before.world c.loop-before.frame _
    c.loop-before-test.false (c.loop-before.invariant m qs))
    (λ es. c.execute_counted-2.ensures m es))
