use Rattle.std.proofs.Common.{sym, subst, ◌∙◌, []}
use Rattle.cir_ast.specs.Tree.{as_accessors, bare, place_accessors}
use Rattle.cir_meaning.specs.Costs.{both, cost_of, indices_cost, node, place_cost}
use Rattle.cir_meaning.specs.Reading.{Named}
use Rattle.cir_frame.specs.Shown.{state_of}
use Rattle.cir_cost.specs.Adds.{Adds}
use Rattle.cir_evaluate.specs.Within.{context_at, where_at}
use Rattle.cir_assign.specs.Assigns.{assigned_cost}
use Rattle.cir_assign.proofs.Chained.{adds_next}
use Rattle.cir_assign.proofs.assigning.add_assigned.Goals as goal

pub returns-in_ok-add_indices-in-Plain-clause-cost :
    goal.returns-in_ok-add_indices-in-Plain-clause-cost
returns-in_ok-add_indices-in-Plain-clause-cost g c = λ m qs.
    let k = context_at c.args.here.now m in
    let w = where_at c.args.here.now in
    let dark = c.args.here.now.shaded in
    let accessors = as_accessors c.args.accessors.now in
    let s = state_of c.args.frame.now c.args.world.now qs in
    let first = cost_of k w dark (bare c.in-Plain.e.now) s in
    let second = indices_cost k w dark accessors s in
    subst (λ x. Adds c.args.cost.now c.add_indices.new.self (assigned_cost k w dark accessors x s))
    (sym c.in-Plain.is)
    (adds_next c.args.cost.now c.node.new.self c.add_indices.new.self (node 1) (both first second)
    c.node.ensures (adds_next c.node.new.self c.add.new.self c.add_indices.new.self first second
    (c.in_ok-add-in-Plain.ensures.cost m qs)
    (subst (λ z. Adds c.add.new.self c.add_indices.new.self (indices_cost k w dark accessors z))
    (c.in_ok-add-in-Plain.ensures.same m c.args.frame.now qs)
    (c.in_ok-add_indices-in-Plain.ensures.cost m qs))))

pub returns-in_ok-add_indices-in-Plain-clause-same :
    goal.returns-in_ok-add_indices-in-Plain-clause-same
returns-in_ok-add_indices-in-Plain-clause-same g c = λ m f qs.
    c.in_ok-add_indices-in-Plain.ensures.same m f qs ∙ c.in_ok-add-in-Plain.ensures.same m f qs

pub returns-in_ok-add-in-Compound-clause-cost : goal.returns-in_ok-add-in-Compound-clause-cost
returns-in_ok-add-in-Compound-clause-cost g c = λ m qs.
    let k = context_at c.args.here.now m in
    let w = where_at c.args.here.now in
    let dark = c.args.here.now.shaded in
    let accessors = as_accessors c.args.accessors.now in
    let p = c.in-Compound.place.now in
    let s = state_of c.args.frame.now c.args.world.now qs in
    let first = place_cost k w dark p.meant (Named p.meant) [] (place_accessors p) s in
    let second = cost_of k w dark (bare c.in-Compound.e.now) s in
    subst (λ x. Adds c.args.cost.now c.add-in-Compound.new.self
    (assigned_cost k w dark accessors x s)) (sym c.in-Compound.is)
    (adds_next c.args.cost.now c.node.new.self c.add-in-Compound.new.self (node 1)
    (both first second) c.node.ensures (adds_next c.node.new.self c.add_place.new.self
    c.add-in-Compound.new.self first second (c.in_ok-add_place-in-Compound.ensures.cost m qs)
    (subst (λ z. Adds c.add_place.new.self c.add-in-Compound.new.self
    (cost_of k w dark (bare c.in-Compound.e.now) z))
    (c.in_ok-add_place-in-Compound.ensures.same m c.args.frame.now qs)
    (c.in_ok-add-in-Compound.ensures.cost m qs))))

pub returns-in_ok-add-in-Compound-clause-same : goal.returns-in_ok-add-in-Compound-clause-same
returns-in_ok-add-in-Compound-clause-same g c = λ m f qs.
    c.in_ok-add-in-Compound.ensures.same m f qs
    ∙ c.in_ok-add_place-in-Compound.ensures.same m f qs

pub returns-in_ok-add_place-in-Increment-clause-cost :
    goal.returns-in_ok-add_place-in-Increment-clause-cost
returns-in_ok-add_place-in-Increment-clause-cost g c = λ m qs.
    let k = context_at c.args.here.now m in
    let w = where_at c.args.here.now in
    let dark = c.args.here.now.shaded in
    let s = state_of c.args.frame.now c.args.world.now qs in
    let p = c.in-Increment.place.now in
    subst (λ x. Adds c.args.cost.now c.add_place-in-Increment.new.self
    (assigned_cost k w dark (as_accessors c.args.accessors.now) x s)) (sym c.in-Increment.is)
    (adds_next c.args.cost.now c.node.new.self c.add_place-in-Increment.new.self (node 1)
    (place_cost k w dark p.meant (Named p.meant) [] (place_accessors p) s) c.node.ensures
    (c.in_ok-add_place-in-Increment.ensures.cost m qs))

pub returns-in_ok-add_place-in-Decrement-clause-cost :
    goal.returns-in_ok-add_place-in-Decrement-clause-cost
returns-in_ok-add_place-in-Decrement-clause-cost g c = λ m qs.
    let k = context_at c.args.here.now m in
    let w = where_at c.args.here.now in
    let dark = c.args.here.now.shaded in
    let s = state_of c.args.frame.now c.args.world.now qs in
    let p = c.in-Decrement.place.now in
    subst (λ x. Adds c.args.cost.now c.add_place-in-Decrement.new.self
    (assigned_cost k w dark (as_accessors c.args.accessors.now) x s)) (sym c.in-Decrement.is)
    (adds_next c.args.cost.now c.node.new.self c.add_place-in-Decrement.new.self (node 1)
    (place_cost k w dark p.meant (Named p.meant) [] (place_accessors p) s) c.node.ensures
    (c.in_ok-add_place-in-Decrement.ensures.cost m qs))
