use Rattle.std.proofs.Common.{◌∙◌, ap, subst, refl}
use Rattle.cir_ast.specs.Tree.{bare}
use Rattle.cir_values.specs.Meant.{meant}
use Rattle.cir_meaning.specs.Costs.{both, cost_of, node}
use Rattle.cir_meaning.specs.Steps.{equal_cost, stepped}
use Rattle.cir_arrays.specs.Stopped.{Gives}
use Rattle.cir_frame.specs.Shown.{state_of}
use Rattle.cir_cost.specs.Adds.{Adds, IsCost}
use Rattle.cir_evaluate.specs.Within.{Kept, context_at, where_at}
use Rattle.cir_assign.proofs.Chained.{one_paid, uncounted_kept, uncounted_world}
use Rattle.cir_assign.proofs.CostStates.{cost_same}
use Rattle.cir_assign.proofs.Stepping.{leads_behind, leads_next, leads_step}
use Rattle.cir_assign.proofs.Equations.{equal_goes}
use Rattle.cir_assign.proofs.wiring.equal.Goals as goal

pub returns : goal.returns
returns g c = λ m qs shaded.
    let k = context_at c.args.here.now m in
    let w = where_at c.args.here.now in
    let f = c.args.frame.now in
    let a = bare c.args.left.now in
    let b = bare c.args.right.now in
    let dark = c.args.here.now.shaded in
    let w0 = c.args.world.now in
    let w2 = c.number-2.new.world in
    let w3 = c.constrain.new.world in
    let s = state_of f w0 qs in
    let counted = uncounted_world f w2 w3 qs (c.in_ok-constrain.ensures.world qs)
    ∙ (uncounted_kept f c.number.new.world w2 qs (c.in_ok-y.ensures.keeps m)
    ∙ uncounted_kept f w0 c.number.new.world qs (c.in_ok-x.ensures.keeps m)) in
    let first = subst (λ z. Adds c.node.new.self c.add.new.self z)
    (cost_same k w (state_of f w3 qs) s counted dark a) (c.in_ok-add.ensures.cost m qs) in
    let second = subst (λ z. Adds c.add.new.self c.add-2.new.self z)
    (ap (λ z. cost_of k w dark b z) (c.in_ok-add.ensures.same m f qs)
    ∙ cost_same k w (state_of f w3 qs) s counted dark b) (c.in_ok-add-2.ensures.cost m qs) in
    let paid = subst (λ d. IsCost c.add-2.new.self
    (both (node 1) (both (cost_of k w d a s) (cost_of k w d b s)))) shaded
    (one_paid c.new-cost.result c.node.new.self c.add.new.self c.add-2.new.self
    (cost_of k w dark a s) (cost_of k w dark b s) c.new-cost.ensures c.node.ensures first
    second) in
    leads_behind qs w0 w2 f c.stepped.new.world c.stepped.result _ _
    (equal_goes k w a b s (state_of f c.number.new.world qs) (state_of f w2 qs)
    (meant c.in_ok-x.x) (meant c.in_ok-y.y) (rw shaded at (c.in_ok-x.ensures.value m qs))
    (rw shaded at (c.in_ok-y.ensures.value m qs)))
    (ap (λ (x : Kept). x.constraints) (c.in_ok-y.ensures.keeps m)
    ∙ ap (λ (x : Kept). x.constraints) (c.in_ok-x.ensures.keeps m))
    (leads_next qs w2 w3 f f c.stepped.new.world c.stepped.result _ _
    (c.in_ok-constrain.ensures.equation k f qs refl)
    (λ es. leads_step es w3 f c.stepped.new.world c.stepped.result _
    (subst (λ z. Gives (λ _. state_of f c.stepped.new.world es) c.stepped.result
    (stepped k w (equal_cost k w a b s) 0 z))
    (c.in_ok-add-2.ensures.same m f es ∙ c.in_ok-add.ensures.same m f es)
    (c.stepped.ensures.step m.call m.make (equal_cost k w a b s) f es paid))
    (ap (λ (x : Kept). x.constraints) c.stepped.ensures.keeps
    ∙ (ap (λ (x : Kept). x.constraints) (c.in_ok-add-2.ensures.keeps m)
    ∙ ap (λ (x : Kept). x.constraints) (c.in_ok-add.ensures.keeps m)))))
