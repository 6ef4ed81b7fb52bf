use Rattle.std.proofs.Common.{◌≡◌, false, List, drop}
use Rattle.std.specs.Prelude.{map}
use Rattle.cir_ast.specs.Tree.{bare_argument}
use Rattle.cir_meaning.specs.Source.{Equation}
use Rattle.cir_meaning.specs.Steps.{arguments_cost}
use Rattle.cir_frame.specs.declared.frame.Frame.{Frame}
use Rattle.cir_frame.specs.Shown.{state_of}
use Rattle.cir_evaluate.specs.Within.{Means, context_at, kept_of, where_at}
use Rattle.cir_cost.specs.declared.cost.Cost.{Cost}
use Rattle.cir_cost.specs.Adds.{Adds}
use Rattle.cir_cost.proofs.cost.log_cost.Given as goal

-- with what is left to add, all is added
abbrev pub invariant-loop-argument : goal.invariant-loop-argument
invariant-loop-argument g l = record {
  cost : (m : Means (goal.C-post g l.here.context.now.call.now) l.here.context.now)
      (qs : List Equation) (new : Cost) → l.here.shaded ≡ false
      → Adds l.cost new (arguments_cost (context_at l.here m) (where_at l.here)
      (map bare_argument (drop l.argument-index l.arguments))
      (state_of l.frame l.initial.world qs))
      → Adds l.initial.cost new (arguments_cost (context_at l.here m) (where_at l.here)
      (map bare_argument l.arguments) (state_of l.frame l.initial.world qs));
  same : (m : Means (goal.C-post g l.here.context.now.call.now) l.here.context.now)
      (f : Frame) (qs : List Equation) → state_of f l.world qs ≡ state_of f l.initial.world qs;
  keeps : Means (goal.C-post g l.here.context.now.call.now) l.here.context.now
      → kept_of l.world ≡ kept_of l.initial.world;
}
