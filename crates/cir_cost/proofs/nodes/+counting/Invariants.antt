use Rattle.std.proofs.Common.{◌≡◌, ◌+◌, ◌≤◌, drop}
use Rattle.std.specs.Prelude.{◌-◌, ◌^◌}
use Rattle.cir_ast.specs.Tree.{bare_exprs, as_accessors}
use Rattle.cir_meaning.specs.Limits.{standing}
use Rattle.cir_meaning.specs.Costs.{all_nodes, place_nodes}
use Rattle.cir_cost.proofs.nodes.+counting.Given as goal

abbrev pub invariant-all_nodes-loop-e : goal.invariant-all_nodes-loop-e
invariant-all_nodes-loop-e l = record {
  sum : standing (l.count + all_nodes (bare_exprs (drop l.e-index l.es)))
      ≡ standing (all_nodes (bare_exprs l.es));
  fits : l.count ≤ 2 ^ 64 - 1;
}

abbrev pub invariant-place_nodes-loop-accessor : goal.invariant-place_nodes-loop-accessor
invariant-place_nodes-loop-accessor l = record {
  sum : standing (l.count + place_nodes (as_accessors (drop l.accessor-index l.accessor-items)))
      ≡ standing (place_nodes (as_accessors l.accessor-items));
  fits : l.count ≤ 2 ^ 64 - 1;
}
