use Rattle.std.proofs.Common.{◌≡◌, ◌∙◌, ◌++◌, ◌∷◌, ℕ, List, [], None, ap, subst, sym}
use Rattle.cir_ast.specs.Tree.{bare}
use Rattle.cir_values.specs.Meant.{meant}
use Rattle.cir_meaning.specs.Frame.{uncounted}
use Rattle.cir_meaning.specs.Steps.{assert_cost, stepped}
use Rattle.cir_arrays.specs.Stopped.{Gives}
use Rattle.cir_arrays.proofs.Exits.{exits}
use Rattle.cir_frame.specs.Shown.{state_of}
use Rattle.cir_evaluate.specs.Within.{context_at, where_at}
use Rattle.cir_assign.proofs.Chained.{uncounted_kept}
use Rattle.cir_assign.proofs.Stepping.{leads_as, leads_refused, leads_step, lists_kept}
use Rattle.cir_execute.proofs.Going.{refusal}
use Rattle.cir_execute.proofs.Logging.{assert_paid, assert_told}
use Rattle.cir_execute.proofs.Scanning.{kept_constraints}
use Rattle.cir_steps.specs.Emission.{known_in, step_of}
use Rattle.cir_steps.specs.Step.{Asserting, Step}
use Rattle.cir_assert.specs.Asserts.{assert_steps}
use Rattle.cir_make.specs.Shows.{IsKept}
use Rattle.cir_assert.proofs.Asserting.{none_behind, steps_known}
use Rattle.cir_assert.proofs.LogSteps.{on_done}
use Rattle.cir_assert.proofs.leaves.asserted.Goals as goal

pub returns-in_err-v-clause-leads : goal.returns-in_err-v-clause-leads
returns-in_err-v-clause-leads g c = λ m qs shaded.
    let v = rw shaded at (c.in_err-v.ensures.value m qs) in
    leads_refused qs c.args.whole.now.world c.args.inside.now.frame c.number.new.world
    c.from_residual.result _ _ c.from_residual.ensures.1 (exits _ _ _ v)

pub returns-in-First-clause-leads : goal.returns-in-First-clause-leads
returns-in-First-clause-leads g c = λ m qs shaded.
    let f = c.args.inside.now.frame in
    let w0 = c.args.whole.now.world in
    let w1 = c.number.new.world in
    let v = rw shaded at (c.in_ok-v.ensures.value m qs) in (
      qs,
      assert_told (context_at c.args.here.now m) (where_at c.args.here.now)
          (bare c.args.condition.now) (state_of f w0 qs) (state_of f w1 qs) (meant c.in_ok-v.v) v
          c.side_of.result _ c.in-First.is c.side_of.ensures,
      lists_kept qs w0 w1 (kept_constraints w1 w0 (c.in_ok-v.ensures.keeps m)),
    )

pub returns-in-Second-clause-leads : goal.returns-in-Second-clause-leads
returns-in-Second-clause-leads g c = λ m qs shaded.
    let f = c.args.inside.now.frame in
    let v = rw shaded at (c.in_ok-v.ensures.value m qs) in
    refusal _ _ _
    (assert_told (context_at c.args.here.now m) (where_at c.args.here.now)
    (bare c.args.condition.now) (state_of f c.args.whole.now.world qs)
    (state_of f c.number.new.world qs) (meant c.in_ok-v.v) v c.side_of.result _ c.in-Second.is
    c.side_of.ensures) c.refused.ensures

pub returns-clause-leads : goal.returns-clause-leads
returns-clause-leads g c = λ m qs shaded.
    let k = context_at c.args.here.now m in
    let w = where_at c.args.here.now in
    let e = bare c.args.condition.now in
    let f = c.args.inside.now.frame in
    let w0 = c.args.whole.now.world in
    let w1 = c.number.new.world in
    let w2 = c.plain_step.new.world in
    let w3 = c.add.new.world in
    let w4 = c.stepped.new.world in
    let s = state_of f w0 qs in
    let v = rw shaded at (c.in_ok-v.ensures.value m qs) in
    let same = c.in_ok-plain_step-in-Both.ensures.same m f qs in
    let counted = ap uncounted same ∙ uncounted_kept f w0 w1 qs (c.in_ok-v.ensures.keeps m) in
    let cost = rw shaded at (c.in_ok-add-in-Both.ensures.cost m qs) in
    let paid = assert_paid k w e s (state_of f w2 qs) c.new-cost.result c.node.new.self
    c.add.new.self counted c.new-cost.ensures c.node.ensures cost in
    leads_as qs w0 f w4 c.stepped.result _ _
    (assert_told k w e s (state_of f w1 qs) (meant c.in_ok-v.v) v c.side_of.result _ c.in-Both.is
    c.side_of.ensures)
    (leads_step qs w0 f w4 c.stepped.result _
    (subst (λ z. Gives (λ _. state_of f w4 qs) c.stepped.result
    (stepped k w (assert_cost k w e s) 0 z)) (c.in_ok-add-in-Both.ensures.same m f qs ∙ same)
    (c.stepped.ensures.step m.call m.make (assert_cost k w e s) f qs paid))
    (kept_constraints w4 w0 (c.stepped.ensures.keeps ∙ c.in_ok-add-in-Both.ensures.keeps m
    ∙ c.in_ok-plain_step-in-Both.ensures.keeps m ∙ c.in_ok-v.ensures.keeps m)))

pub returns-in-First-clause-kept : goal.returns-in-First-clause-kept
returns-in-First-clause-kept g c = λ m qs first x steps shaded known kept.
    let k = context_at c.args.here.now m in
    let w = where_at c.args.here.now in
    let e = bare c.args.condition.now in
    let i = c.args.inside.now in
    let v = rw (shaded, sym known) at (c.in_ok-v.ensures.value m qs) in
    let P : List Step → Type 0 = IsKept first i.frame i.cells c.args.whole.now.made x in
    record {
      value = meant c.in_ok-v.v;
      state = state_of i.frame c.number.new.world qs;
      is = v;
      kept = subst P (none_behind steps (assert_steps k w e (meant c.in_ok-v.v) x)
          (steps_known c.side_of.result _ (meant c.in_ok-v.v) _ c.in-First.is c.side_of.ensures))
          kept;
    }

pub returns-clause-kept : goal.returns-clause-kept
returns-clause-kept g c = λ m qs first x steps shaded known kept.
    let k = context_at c.args.here.now m in
    let w = where_at c.args.here.now in
    let e = bare c.args.condition.now in
    let i = c.args.inside.now in
    let f = i.frame in
    let v = rw (shaded, sym known) at (c.in_ok-v.ensures.value m qs) in
    let counted : uncounted (known_in x) ≡ uncounted (state_of f c.number.new.world qs) =
    ap uncounted known
    ∙ sym (uncounted_kept f c.args.whole.now.world c.number.new.world qs
    (c.in_ok-v.ensures.keeps m)) in
    let made = subst (λ (ts : List ℕ). IsKept first f c.plain_step.new.cells
    c.plain_step.new.made x (steps ++ step_of k w (known_in x) (assert_cost k w e (known_in x))
    (Asserting e) ts None x ∷ [])) c.new.ensures
    (c.in_ok-plain_step-in-Both.ensures.made m qs first x steps
    (assert_cost k w e (known_in x)) shaded counted kept) in
    on_done c.stepped.result _ record {
      value = meant c.in_ok-v.v;
      state = state_of f c.number.new.world qs;
      is = v;
      kept = subst (λ (ss : List Step). IsKept first f c.plain_step.new.cells
          c.plain_step.new.made x (steps ++ ss))
          (sym (steps_known c.side_of.result _ (meant c.in_ok-v.v) _ c.in-Both.is
          c.side_of.ensures)) made;
    }
