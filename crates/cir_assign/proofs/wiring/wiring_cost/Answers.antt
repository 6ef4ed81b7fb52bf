use Rattle.std.proofs.Common.{subst, ◌∙◌, ◌+◌}
use Rattle.cir_ast.specs.Tree.{as_accessors, bare}
use Rattle.cir_meaning.specs.Costs.{both, cost_of, indices_cost}
use Rattle.cir_frame.specs.Shown.{state_of}
use Rattle.cir_cost.specs.Adds.{Adds, IsCost}
use Rattle.cir_evaluate.specs.Within.{context_at, where_at}
use Rattle.cir_assign.proofs.Chained.{two_paid}
use Rattle.cir_assign.proofs.wiring.wiring_cost.Goals as goal

pub returns-clause-cost : goal.returns-clause-cost
returns-clause-cost g c = λ m name qs shaded.
    let k = context_at c.args.here.now m in
    let w = where_at c.args.here.now in
    let e = bare c.args.w.now.value.now in
    let accessors = as_accessors c.args.w.now.accessors.now in
    let s = state_of c.args.frame.now c.args.world.now qs in
    subst (λ dark. IsCost c.add_indices.new.self (record
    (both (cost_of k w dark e s) (indices_cost k w dark accessors s)) {
      nodes = 1 + (1 + ((indices_cost k w dark accessors s).nodes + (cost_of k w dark e s).nodes));
    })) shaded
    (two_paid c.new-cost.result c.node.new.self c.node-2.new.self c.add.new.self
    c.add_indices.new.self (cost_of k w c.args.here.now.shaded e s)
    (indices_cost k w c.args.here.now.shaded accessors s) c.new-cost.ensures c.node.ensures
    c.node-2.ensures (c.in_ok-add.ensures.cost m qs)
    (subst (λ z. Adds c.add.new.self c.add_indices.new.self
    (indices_cost k w c.args.here.now.shaded accessors z))
    (c.in_ok-add.ensures.same m c.args.frame.now qs) (c.in_ok-add_indices.ensures.cost m qs)))

pub returns-clause-same : goal.returns-clause-same
returns-clause-same g c = λ m f qs.
    c.in_ok-add_indices.ensures.same m f qs ∙ c.in_ok-add.ensures.same m f qs
