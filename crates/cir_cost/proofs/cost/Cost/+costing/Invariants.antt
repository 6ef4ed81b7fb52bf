use Rattle.std.proofs.Common.{◌≡◌, List, [], drop}
use Rattle.cir_ast.specs.Tree.{bare_exprs, as_accessors}
use Rattle.cir_meaning.specs.Source.{Equation}
use Rattle.cir_meaning.specs.Reading.{Named}
use Rattle.cir_meaning.specs.Costs.{all_cost, place_cost}
use Rattle.cir_frame.specs.declared.frame.Frame.{Frame}
use Rattle.cir_frame.specs.Read.{root_of}
use Rattle.cir_frame.specs.Shown.{state_of}
use Rattle.cir_evaluate.specs.Within.{Means, context_at, kept_of, where_at}
use Rattle.cir_cost.specs.declared.cost.Cost.{Cost}
use Rattle.cir_cost.specs.Adds.{Adds}
use Rattle.cir_cost.proofs.cost.Cost.+costing.Given as goal

-- with what is left to add, all is added
abbrev pub invariant-add_all-loop-e : goal.invariant-add_all-loop-e
invariant-add_all-loop-e g l = record {
  cost : (m : Means (goal.C-post g l.here.context.now.call.now) l.here.context.now)
      (qs : List Equation) (new : Cost)
      → Adds l.self new (all_cost (context_at l.here m) (where_at l.here) l.here.shaded
      (bare_exprs (drop l.e-index l.es)) (state_of l.frame l.initial.world qs))
      → Adds l.initial.self new (all_cost (context_at l.here m) (where_at l.here) l.here.shaded
      (bare_exprs l.es) (state_of l.frame l.initial.world qs));
  same : (m : Means (goal.C-post g l.here.context.now.call.now) l.here.context.now)
      (f : Frame) (qs : List Equation) → state_of f l.world qs ≡ state_of f l.initial.world qs;
  keeps : Means (goal.C-post g l.here.context.now.call.now) l.here.context.now
      → kept_of l.world ≡ kept_of l.initial.world;
}

abbrev pub invariant-add_place-loop-accessor : goal.invariant-add_place-loop-accessor
invariant-add_place-loop-accessor g l = record {
  cost : (m : Means (goal.C-post g l.here.context.now.call.now) l.here.context.now)
      (qs : List Equation) (new : Cost)
      → Adds l.self new (place_cost (context_at l.here m) (where_at l.here) l.here.shaded
      l.place.meant (root_of l.root) l.indices.items
      (as_accessors (drop l.accessor-index l.accessor-items))
      (state_of l.frame l.initial.world qs))
      → Adds l.initial.self new (place_cost (context_at l.here m) (where_at l.here) l.here.shaded
      l.place.meant (Named l.place.meant) [] (as_accessors l.accessor-items)
      (state_of l.frame l.initial.world qs));
  same : (m : Means (goal.C-post g l.here.context.now.call.now) l.here.context.now)
      (f : Frame) (qs : List Equation) → state_of f l.world qs ≡ state_of f l.initial.world qs;
  keeps : Means (goal.C-post g l.here.context.now.call.now) l.here.context.now
      → kept_of l.world ≡ kept_of l.initial.world;
}
