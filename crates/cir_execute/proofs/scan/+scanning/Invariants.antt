use Rattle.std.proofs.Common.{◌≡◌, List, drop}
use Rattle.std.specs.Prelude.{map, true}
use Rattle.cir_ast.specs.Tree.{as_statements, bare_statement}
use Rattle.cir_meaning.specs.Source.{Equation}
use Rattle.cir_meaning.specs.Scan.{scan_all}
use Rattle.cir_frame.specs.Shown.{state_of}
use Rattle.cir_evaluate.specs.Within.{Means, context_at, where_at}
use Rattle.cir_execute.proofs.scan.+scanning.Given as goal

-- what is scanned of the rest is what is scanned of all
abbrev pub invariant-scan-loop-inner : goal.invariant-scan-loop-inner
invariant-scan-loop-inner g l = record {
  state : (m : Means (goal.C-post g l.dark.context.now.call.now) l.dark.context.now)
      (qs : List Equation) → l.dark.shaded ≡ true
      → scan_all (context_at l.dark m) (where_at l.dark)
      (as_statements (map bare_statement l.inner-items))
      (state_of l.initial.frame l.initial.world qs)
      ≡ scan_all (context_at l.dark m) (where_at l.dark)
      (as_statements (map bare_statement (drop l.inner-index l.inner-items)))
      (state_of l.frame l.world qs);
  constraints : Means (goal.C-post g l.dark.context.now.call.now) l.dark.context.now
      → l.world.constraints.items ≡ l.initial.world.constraints.items;
}
