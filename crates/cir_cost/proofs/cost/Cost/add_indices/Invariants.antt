use Rattle.std.proofs.Common.{◌≡◌, List, drop}
use Rattle.cir_ast.specs.Tree.{as_accessors}
use Rattle.cir_meaning.specs.Source.{Equation}
use Rattle.cir_meaning.specs.Costs.{indices_cost}
use Rattle.cir_frame.specs.declared.frame.Frame.{Frame}
use Rattle.cir_frame.specs.Shown.{state_of}
use Rattle.cir_evaluate.specs.Within.{Means, context_at, kept_of, where_at}
use Rattle.cir_cost.specs.declared.cost.Cost.{Cost}
use Rattle.cir_cost.specs.Adds.{Adds}
use Rattle.cir_cost.proofs.cost.Cost.add_indices.Given as goal

-- with what is left to add, all is added
abbrev pub invariant-loop-accessor : goal.invariant-loop-accessor
invariant-loop-accessor g l = record {
  cost : (m : Means (goal.C-post g l.here.context.now.call.now) l.here.context.now)
      (qs : List Equation) (new : Cost)
      → Adds l.self new (indices_cost (context_at l.here m) (where_at l.here) l.here.shaded
      (as_accessors (drop l.accessor-index l.accessors)) (state_of l.frame l.initial.world qs))
      → Adds l.initial.self new (indices_cost (context_at l.here m) (where_at l.here)
      l.here.shaded (as_accessors l.accessors) (state_of l.frame l.initial.world qs));
  same : (m : Means (goal.C-post g l.here.context.now.call.now) l.here.context.now)
      (f : Frame) (qs : List Equation) → state_of f l.world qs ≡ state_of f l.initial.world qs;
  keeps : Means (goal.C-post g l.here.context.now.call.now) l.here.context.now
      → kept_of l.world ≡ kept_of l.initial.world;
}
