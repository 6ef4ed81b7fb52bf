use Rattle.std.proofs.Common.{◌≡◌, List, drop}
use Rattle.std.specs.Prelude.{true}
use Rattle.cir_meaning.specs.Source.{Equation}
use Rattle.cir_frame.specs.Shown.{state_of}
use Rattle.cir_evaluate.specs.Within.{Means, context_at, where_at}
use Rattle.cir_cost.specs.declared.cost.Cost.{Cost}
use Rattle.cir_execute.specs.Again.{IsUnchanged}
use Rattle.cir_execute.proofs.Standing.{AllStand, NoneAt}
use Rattle.cir_execute.proofs.inside.+add_statement.Given as goal

-- with what is left to add, all is added
abbrev pub invariant-loop-inner : goal.invariant-loop-inner
invariant-loop-inner g l = record {
  cost : (m : Means (goal.C-post g l.dark.context.now.call.now) l.dark.context.now)
      (qs : List Equation) (new : Cost) → l.dark.shaded ≡ true → NoneAt l.inner-items
      → AllStand (context_at l.dark m) (where_at l.dark) (state_of l.frame l.initial.world qs)
      l.cost new (drop l.inner-index l.inner-items)
      → AllStand (context_at l.dark m) (where_at l.dark) (state_of l.frame l.initial.world qs)
      l.initial.cost new l.inner-items;
  fault : NoneAt l.inner-items → NoneAt (drop l.inner-index l.inner-items);
  same : Means (goal.C-post g l.dark.context.now.call.now) l.dark.context.now
      → IsUnchanged l.initial.world l.world;
}
