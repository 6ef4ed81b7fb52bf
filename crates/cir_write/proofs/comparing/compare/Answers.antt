use Rattle.std.proofs.Common.{◌≡◌, ◌∙◌, ◌++◌, ◌∷◌, ℕ, List, [], None, ap, subst, sym, refl}
use Rattle.cir_ast.specs.Tree.{bare}
use Rattle.cir_values.specs.Meant.{meant}
use Rattle.cir_meaning.specs.Costs.{both, cost_of, node}
use Rattle.cir_meaning.specs.Frame.{uncounted}
use Rattle.cir_meaning.specs.Steps.{equal_cost, stepped}
use Rattle.cir_arrays.specs.Stopped.{Gives}
use Rattle.cir_frame.specs.Shown.{state_of}
use Rattle.cir_cost.specs.Adds.{Adds, IsCost}
use Rattle.cir_evaluate.specs.Within.{Kept, context_at, where_at}
use Rattle.cir_steps.specs.Emission.{known_in, step_of}
use Rattle.cir_steps.specs.Step.{Comparing}
use Rattle.cir_assign.proofs.Chained.{one_paid, uncounted_kept, uncounted_world}
use Rattle.cir_assign.proofs.CostStates.{cost_same}
use Rattle.cir_assign.proofs.Stepping.{leads_behind, leads_exit, leads_next, leads_step}
use Rattle.cir_assign.proofs.Equations.{equal_goes}
use Rattle.cir_make.specs.Shows.{IsKept}
use Rattle.cir_make.proofs.Leading.{always_ok}
use Rattle.cir_write.proofs.comparing.compare.Goals as goal

pub returns-in_err-constrain-clause-leads : goal.returns-in_err-constrain-clause-leads
returns-in_err-constrain-clause-leads g c = λ m qs shaded.
    let k = context_at c.args.here.now m in
    let w = where_at c.args.here.now in
    let f = c.args.inside.now.frame in
    let w0 = c.args.whole.now.world in
    let w3 = c.plain_step.new.world in
    let w4 = c.constrain.new.world in
    let s = state_of f w0 qs in
    let same3 : state_of f w3 qs ≡ state_of f c.number-2.new.world qs =
    c.in_ok-plain_step.ensures.same m f qs in
    leads_behind qs w0 w3 f w4 c.from_residual-in_err-constrain.result _ _
    (equal_goes k w (bare c.args.left.now) (bare c.args.right.now) s
    (state_of f c.number.new.world qs) (state_of f w3 qs) (meant c.in_ok-x.x) (meant c.in_ok-y.y)
    (rw shaded at (c.in_ok-x.ensures.value m qs))
    (rw (shaded, sym same3) at (c.in_ok-y.ensures.value m qs)))
    (ap (λ (x : Kept). x.constraints) (c.in_ok-plain_step.ensures.keeps m)
    ∙ (ap (λ (x : Kept). x.constraints) (c.in_ok-y.ensures.keeps m)
    ∙ ap (λ (x : Kept). x.constraints) (c.in_ok-x.ensures.keeps m)))
    (leads_exit qs w3 f w4 c.from_residual-in_err-constrain.result _ _ _
    c.from_residual-in_err-constrain.ensures.1
    (c.in_err-constrain.ensures.equation k f qs refl))

pub returns-clause-leads : goal.returns-clause-leads
returns-clause-leads g c = λ m qs shaded.
    let k = context_at c.args.here.now m in
    let w = where_at c.args.here.now in
    let f = c.args.inside.now.frame in
    let a = bare c.args.left.now in
    let b = bare c.args.right.now in
    let dark = c.args.here.now.shaded in
    let w0 = c.args.whole.now.world in
    let w1 = c.number.new.world in
    let w2 = c.number-2.new.world in
    let w3 = c.plain_step.new.world in
    let w4 = c.constrain.new.world in
    let w6 = c.stepped.new.world in
    let s = state_of f w0 qs in
    let same3 : state_of f w3 qs ≡ state_of f w2 qs = c.in_ok-plain_step.ensures.same m f qs in
    let counted = uncounted_world f w3 w4 qs (c.in_ok-constrain.ensures.world qs)
    ∙ (ap uncounted same3
    ∙ (uncounted_kept f w1 w2 qs (c.in_ok-y.ensures.keeps m)
    ∙ uncounted_kept f w0 w1 qs (c.in_ok-x.ensures.keeps m))) in
    let first = subst (λ z. Adds c.node.new.self c.add.new.self z)
    (cost_same k w (state_of f w4 qs) s counted dark a) (c.in_ok-add.ensures.cost m qs) in
    let second = subst (λ z. Adds c.add.new.self c.add-2.new.self z)
    (ap (λ z. cost_of k w dark b z) (c.in_ok-add.ensures.same m f qs)
    ∙ cost_same k w (state_of f w4 qs) s counted dark b) (c.in_ok-add-2.ensures.cost m qs) in
    let paid = subst (λ d. IsCost c.add-2.new.self
    (both (node 1) (both (cost_of k w d a s) (cost_of k w d b s)))) shaded
    (one_paid c.new-cost.result c.node.new.self c.add.new.self c.add-2.new.self
    (cost_of k w dark a s) (cost_of k w dark b s) c.new-cost.ensures c.node.ensures first
    second) in
    leads_behind qs w0 w3 f w6 c.stepped.result _ _
    (equal_goes k w a b s (state_of f w1 qs) (state_of f w3 qs)
    (meant c.in_ok-x.x) (meant c.in_ok-y.y) (rw shaded at (c.in_ok-x.ensures.value m qs))
    (rw (shaded, sym same3) at (c.in_ok-y.ensures.value m qs)))
    (ap (λ (x : Kept). x.constraints) (c.in_ok-plain_step.ensures.keeps m)
    ∙ (ap (λ (x : Kept). x.constraints) (c.in_ok-y.ensures.keeps m)
    ∙ ap (λ (x : Kept). x.constraints) (c.in_ok-x.ensures.keeps m)))
    (leads_next qs w3 w4 f f w6 c.stepped.result _ _
    (c.in_ok-constrain.ensures.equation k f qs refl)
    (λ es. leads_step es w4 f w6 c.stepped.result _
    (subst (λ z. Gives (λ _. state_of f w6 es) c.stepped.result
    (stepped k w (equal_cost k w a b s) 0 z))
    (c.in_ok-add-2.ensures.same m f es ∙ c.in_ok-add.ensures.same m f es)
    (c.stepped.ensures.step m.call m.make (equal_cost k w a b s) f es paid))
    (ap (λ (x : Kept). x.constraints) c.stepped.ensures.keeps
    ∙ (ap (λ (x : Kept). x.constraints) (c.in_ok-add-2.ensures.keeps m)
    ∙ ap (λ (x : Kept). x.constraints) (c.in_ok-add.ensures.keeps m)))))

pub returns-clause-kept : goal.returns-clause-kept
returns-clause-kept g c = λ m qs first x steps shaded known kept.
    let k = context_at c.args.here.now m in
    let w = where_at c.args.here.now in
    let f = c.args.inside.now.frame in
    let a = bare c.args.left.now in
    let b = bare c.args.right.now in
    let w0 = c.args.whole.now.world in
    let w1 = c.number.new.world in
    let w2 = c.number-2.new.world in
    let counted : uncounted (known_in x) ≡ uncounted (state_of f w2 qs) =
    ap uncounted known ∙ sym (uncounted_kept f w1 w2 qs (c.in_ok-y.ensures.keeps m)
    ∙ uncounted_kept f w0 w1 qs (c.in_ok-x.ensures.keeps m)) in
    let cost = equal_cost k w a b (known_in x) in
    always_ok c.stepped.result _ (subst (λ (ts : List ℕ). IsKept first f c.plain_step.new.cells
    c.plain_step.new.made x (steps ++ step_of k w (known_in x) cost (Comparing a b) ts None x ∷ []))
    c.new-targets.ensures
    (c.in_ok-plain_step.ensures.made m qs first x steps cost shaded counted kept))
