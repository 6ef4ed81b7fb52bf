use Rattle.std.proofs.Common.{◌∙◌, subst}
use Rattle.cir_ast.specs.Tree.{bare}
use Rattle.cir_values.specs.Meant.{meant}
use Rattle.cir_meaning.specs.Steps.{assert_cost, stepped}
use Rattle.cir_arrays.specs.Stopped.{Gives}
use Rattle.cir_frame.specs.Shown.{state_of}
use Rattle.cir_arrays.proofs.Exits.{exits}
use Rattle.cir_evaluate.specs.Within.{at_spot, context_of}
use Rattle.cir_assign.proofs.Chained.{uncounted_kept}
use Rattle.cir_assign.proofs.Stepping.{leads_as, leads_refused, leads_step, lists_kept}
use Rattle.cir_execute.proofs.Going.{refusal}
use Rattle.cir_execute.proofs.Logging.{assert_paid, assert_told}
use Rattle.cir_execute.proofs.Scanning.{kept_constraints}
use Rattle.cir_execute.proofs.statement.assert.Goals as goal

pub returns-in_err-v : goal.returns-in_err-v
returns-in_err-v g c = λ m qs.
    let v = rw c.here-here.ensures at c.in_err-v.ensures.value in
    leads_refused qs c.args.world.now c.args.frame.now c.number.new.world c.from_residual.result _ _
    c.from_residual.ensures.1 (exits _ _ _ (v m qs))

pub returns-in-First : goal.returns-in-First
returns-in-First g c = λ m qs.
    let v = rw c.here-here.ensures at c.in_ok-v.ensures.value in
    let keeps = rw c.here-here.ensures at c.in_ok-v.ensures.keeps in (
      qs,
      assert_told (context_of c.args.context.now m.call m.make)
          (at_spot c.args.context.now c.args.spot) (bare c.args.condition.now)
          (state_of c.args.frame.now c.args.world.now qs)
          (state_of c.args.frame.now c.number.new.world qs) (meant c.in_ok-v.v) (v m qs)
          c.side_of-side.result _ c.in-First.is c.side_of-side.ensures,
      lists_kept qs c.args.world.now c.number.new.world
          (kept_constraints c.number.new.world c.args.world.now (keeps m)),
    )

pub returns-in-Second : goal.returns-in-Second
returns-in-Second g c = λ m qs.
    let v = rw c.here-here.ensures at c.in_ok-v.ensures.value in
    refusal _ _ _
    (assert_told (context_of c.args.context.now m.call m.make)
    (at_spot c.args.context.now c.args.spot) (bare c.args.condition.now)
    (state_of c.args.frame.now c.args.world.now qs)
    (state_of c.args.frame.now c.number.new.world qs) (meant c.in_ok-v.v) (v m qs)
    c.side_of-side.result _ c.in-Second.is c.side_of-side.ensures)
    (rw c.here-here.ensures at c.refused.ensures)

pub returns-in_ok-add-in-Both : goal.returns-in_ok-add-in-Both
returns-in_ok-add-in-Both g c = λ m qs.
    let k = context_of c.args.context.now m.call m.make in
    let w = at_spot c.args.context.now c.args.spot in
    let e = bare c.args.condition.now in
    let f = c.args.frame.now in
    let w0 = c.args.world.now in
    let w1 = c.number.new.world in
    let w2 = c.add.new.world in
    let w3 = c.stepped.new.world in
    let s = state_of f w0 qs in
    let v = rw c.here-here.ensures at c.in_ok-v.ensures.value in
    let keeps = rw c.here-here.ensures at c.in_ok-v.ensures.keeps in
    let cost = rw c.here-here.ensures at c.in_ok-add-in-Both.ensures.cost in
    let same = rw c.here-here.ensures at c.in_ok-add-in-Both.ensures.same in
    let added = rw c.here-here.ensures at c.in_ok-add-in-Both.ensures.keeps in
    let step = rw c.here-here.ensures at c.stepped.ensures.step in
    let paid = assert_paid k w e s (state_of f w1 qs) c.new-cost.result c.node.new.self
    c.add.new.self (uncounted_kept f w0 w1 qs (keeps m)) c.new-cost.ensures c.node.ensures
    (cost m qs) in
    leads_as qs w0 f w3 c.stepped.result _ _
    (assert_told k w e s (state_of f w1 qs) (meant c.in_ok-v.v) (v m qs) c.side_of-side.result _
    c.in-Both.is c.side_of-side.ensures)
    (leads_step qs w0 f w3 c.stepped.result _
    (subst (λ z. Gives (λ _. state_of f w3 qs) c.stepped.result
    (stepped k w (assert_cost k w e s) 0 z)) (same m f qs)
    (step m.call m.make (assert_cost k w e s) f qs paid))
    (kept_constraints w3 w0 (c.stepped.ensures.keeps ∙ added m ∙ keeps m)))
