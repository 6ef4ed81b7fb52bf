use Rattle.std.proofs.Common.{◌≡◌, List, [], drop, length}
use Rattle.cir_ast.specs.Tree.{as_accessors}
use Rattle.cir_meaning.specs.Source.{Equation}
use Rattle.cir_meaning.specs.Evaluate as E
use Rattle.cir_frame.specs.Shown.{state_of}
use Rattle.cir_evaluate.specs.Within.{Means, context_at, kept_of, where_at}
use Rattle.cir_evaluate.specs.Parts.{indexed}
use Rattle.cir_evaluate.proofs.looking.indices_in.Given as goal

abbrev pub invariant-loop-accessor : goal.invariant-loop-accessor
invariant-loop-accessor g l = record {
  value : (m : Means (goal.C-post g l.here.context.now.call.now) l.here.context.now)
      (qs : List Equation)
      → E.indices_in (context_at l.here m) (where_at l.here) l.here.shaded []
      (as_accessors l.accessors) (state_of l.frame l.initial.world qs) indexed
      ≡ E.indices_in (context_at l.here m) (where_at l.here) l.here.shaded l.indices.items
      (as_accessors (drop l.accessor-index l.accessors)) (state_of l.frame l.world qs) indexed;
  count : length l.indices.items ≡ l.accessor-index;
  keeps : Means (goal.C-post g l.here.context.now.call.now) l.here.context.now
      → kept_of l.world ≡ kept_of l.initial.world;
}
