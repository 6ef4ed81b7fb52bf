use Rattle.std.proofs.Common.{◌≡◌, ◌++◌, List, drop}
use Rattle.std.specs.Prelude.{map}
use Rattle.cir_ast.specs.Tree.{bare_exprs}
use Rattle.cir_meaning.specs.Source.{Equation}
use Rattle.cir_meaning.specs.Costs as M
use Rattle.cir_frame.specs.declared.frame.Frame.{Frame}
use Rattle.cir_frame.specs.Shown.{state_of}
use Rattle.cir_evaluate.specs.Within.{Means, context_at, kept_of, where_at}
use Rattle.cir_cost.proofs.cost.shapes_in.Given as goal

abbrev pub invariant-loop-e : goal.invariant-loop-e
invariant-loop-e g l = record {
  shapes : (m : Means (goal.C-post g l.here.context.now.call.now) l.here.context.now)
      (qs : List Equation)
      → map (λ d. d.items) l.shapes.items ++ M.shapes_in (context_at l.here m) (where_at l.here)
      l.here.shaded (bare_exprs (drop l.e-index l.es)) (state_of l.frame l.initial.world qs)
      ≡ M.shapes_in (context_at l.here m) (where_at l.here) l.here.shaded (bare_exprs l.es)
      (state_of l.frame l.initial.world qs);
  same : (m : Means (goal.C-post g l.here.context.now.call.now) l.here.context.now)
      (f : Frame) (qs : List Equation) → state_of f l.world qs ≡ state_of f l.initial.world qs;
  keeps : Means (goal.C-post g l.here.context.now.call.now) l.here.context.now
      → kept_of l.world ≡ kept_of l.initial.world;
}
