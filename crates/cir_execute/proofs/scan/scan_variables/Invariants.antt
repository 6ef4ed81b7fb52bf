use Rattle.std.proofs.Common.{◌≡◌, List, drop}
use Rattle.std.specs.Prelude.{map, true}
use Rattle.cir_ast.specs.Tree.{bare_variable}
use Rattle.cir_meaning.specs.Source.{Equation}
use Rattle.cir_meaning.specs.Simple.{each}
use Rattle.cir_meaning.specs.Scan.{scan_variable}
use Rattle.cir_frame.specs.Shown.{state_of}
use Rattle.cir_evaluate.specs.Within.{Means, context_at, where_at}
use Rattle.cir_execute.proofs.scan.scan_variables.Given as goal

abbrev pub invariant-loop-variable : goal.invariant-loop-variable
invariant-loop-variable g l = record {
  state : (m : Means (goal.C-post g l.dark.context.now.call.now) l.dark.context.now)
      (qs : List Equation) → l.dark.shaded ≡ true
      → each (scan_variable (context_at l.dark m) (where_at l.dark))
      (map bare_variable l.variables) (state_of l.initial.frame l.initial.world qs)
      ≡ each (scan_variable (context_at l.dark m) (where_at l.dark))
      (map bare_variable (drop l.variable-index l.variables)) (state_of l.frame l.world qs);
  constraints : Means (goal.C-post g l.dark.context.now.call.now) l.dark.context.now
      → l.world.constraints.items ≡ l.initial.world.constraints.items;
}
