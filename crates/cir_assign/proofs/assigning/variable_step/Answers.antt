use Rattle.std.proofs.Common.{◌≡◌, ◌∙◌, ap, sym, subst, true, false, List}
use Rattle.cir_ast.specs.declared.program.Meant.TheVariants.{Variable}
use Rattle.cir_ast.specs.Tree.{as_accessors}
use Rattle.cir_meaning.specs.Costs.{Cell, unknown_at}
use Rattle.cir_meaning.specs.Frame.{State, variable_at}
use Rattle.cir_meaning.specs.Places.{elements, numbers_from}
use Rattle.cir_meaning.specs.Limits.{standing}
use Rattle.cir_meaning.specs.Steps.{new_cells, old_reads, stepped, variable_cost}
use Rattle.std.specs.Prelude.{ℕ}
use Rattle.cir_arrays.specs.Counted.{counts_of}
use Rattle.cir_frame.specs.Shown.{state_of}
use Rattle.cir_cost.specs.Adds.{Adds, IsCost, read_alone}
use Rattle.cir_evaluate.specs.Within.{context_at, where_at}
use Rattle.cir_assign.specs.Given.{given_by, written_by}
use Rattle.cir_assign.specs.Assigns.{assigned_cost}
use Rattle.cir_assign.proofs.Assignments.{stepped_standing}
use Rattle.cir_assign.proofs.Chained.{paid_read, paid_unread}
use Rattle.cir_assign.proofs.PaidCosts.{paid}
use Rattle.cir_assign.proofs.Paying.{assigned_same, pays, sure_cells, sure_reads, unsure_cells}
use Rattle.cir_assign.proofs.Paying.{unsure_reads, variable_alike}
use Rattle.cir_assign.proofs.assigning.variable_step.Goals as goal

pub returns-then-is_sure-clause-pays : goal.returns-then-is_sure-clause-pays
returns-then-is_sure-clause-pays g c = λ m name qs s x shaded place is counted.
    let k = context_at c.args.here.now m in
    let w = where_at c.args.here.now in
    let n = c.args.variable in
    let accessors = as_accessors c.args.accessors.now in
    let given = c.args.given in
    let s0 = state_of c.args.frame.now c.args.world.now qs in
    let cost = variable_cost k w (written_by name (Variable n) c.args.accessors.now given) n
    accessors (given_by given) x s in
    let sure : x.reach.is_sure ≡ true =
    sym is.reach.sure ∙ (sym c.is_sure.ensures ∙ c.if-is_sure.true) in
    let adds : Adds c.node.new.self c.add_assigned.new.cost
    (assigned_cost k w false accessors given s) =
    subst (λ z. Adds c.node.new.self c.add_assigned.new.cost z)
    (assigned_same k w accessors given s0 s counted)
    (rw shaded at (c.in_ok-add_assigned.ensures.cost m qs)) in
    let total : IsCost c.add_assigned.new.cost
    (paid (assigned_cost k w false accessors given s) (old_reads n x)) =
    subst (λ (l : List Cell). IsCost c.add_assigned.new.cost
    (paid (assigned_cost k w false accessors given s) l)) (sym (sure_reads n x sure))
    (paid_unread c.new-cost.result c.node.new.self c.add_assigned.new.cost
    (assigned_cost k w false accessors given s) c.new-cost.ensures c.node.ensures adds) in
    let cells : c.unknown_count-cells.result ≡ new_cells n x =
    c.unknown_count-cells.ensures (variable_at s0.frame n) x.value is.value
    ∙ sym (sure_cells n x sure) in
    pays k w cost (paid (assigned_cost k w false accessors given s) (old_reads n x))
    c.add_assigned.new.cost (new_cells n x) c.unknown_count-cells.result total
    (variable_alike k w n name c.args.accessors.now x s given place)
    (λ t. ap (λ (j : ℕ). stepped k w cost j t) cells)

pub returns-clause-pays : goal.returns-clause-pays
returns-clause-pays g c = λ m name qs s x shaded place is counted.
    let k = context_at c.args.here.now m in
    let w = where_at c.args.here.now in
    let n = c.args.variable in
    let accessors = as_accessors c.args.accessors.now in
    let given = c.args.given in
    let s0 = state_of c.args.frame.now c.args.world.now qs in
    let cost = variable_cost k w (written_by name (Variable n) c.args.accessors.now given) n
    accessors (given_by given) x s in
    let sure : x.reach.is_sure ≡ false =
    sym is.reach.sure ∙ (sym c.is_sure.ensures ∙ c.if-is_sure.false) in
    let adds : Adds c.node.new.self c.add_assigned.new.cost
    (assigned_cost k w false accessors given s) =
    subst (λ z. Adds c.node.new.self c.add_assigned.new.cost z)
    (assigned_same k w accessors given s0 s counted)
    (rw shaded at (c.in_ok-add_assigned.ensures.cost m qs)) in
    let olds : unknown_at n (variable_at s0.frame n)
    (numbers_from 0 (elements (variable_at s0.frame n).dims)) ≡ old_reads n x =
    ap (λ (z : State). unknown_at n (variable_at z.frame n)
    (numbers_from 0 (elements (variable_at z.frame n).dims))) (sym is.state)
    ∙ sym (unsure_reads n x sure) in
    let total : IsCost c.read_variable.new.self
    (paid (assigned_cost k w false accessors given s) (old_reads n x)) =
    paid_read c.new-cost.result c.node.new.self c.add_assigned.new.cost c.read_variable.new.self
    (assigned_cost k w false accessors given s) (old_reads n x) c.new-cost.ensures c.node.ensures
    adds (subst (λ (l : List Cell). Adds c.add_assigned.new.cost c.read_variable.new.self
    (read_alone l)) olds (c.in_ok-read_variable.ensures (counts_of c.args.world.now.added))) in
    let cells : c.elements-cells.result ≡ standing (new_cells n x) =
    c.elements-cells.ensures
    ∙ ap (λ (l : List ℕ). standing (elements l))
    (c.variable_dims.ensures (counts_of c.args.world.now.added))
    ∙ ap (λ (z : State). standing (elements (variable_at z.frame n).dims)) (sym is.state)
    ∙ ap standing (sym (unsure_cells n x sure)) in
    pays k w cost (paid (assigned_cost k w false accessors given s) (old_reads n x))
    c.read_variable.new.self (new_cells n x) c.elements-cells.result total
    (variable_alike k w n name c.args.accessors.now x s given place)
    (λ t. ap (λ (j : ℕ). stepped k w cost j t) cells
    ∙ stepped_standing k w cost (new_cells n x) t)
