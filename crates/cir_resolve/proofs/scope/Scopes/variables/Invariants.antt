use Rattle.std.proofs.Common.{◌≡◌}
use Rattle.cir_ast.specs.Tree.{bare_variable}
use Rattle.cir_resolve.specs.Naming.{named_variable}
use Rattle.cir_resolve.specs.Answers.{state_of}
use Rattle.cir_resolve.proofs.InTurn.{IsGiven}
use Rattle.cir_resolve.proofs.scope.Scopes.variables.Given as goal

abbrev pub invariant-loop-i : goal.invariant-loop-i
invariant-loop-i l = record {
  given : IsGiven bare_variable (named_variable l.spot) (state_of l.fn.self)
      (state_of l.self) l.initial.all.items l.all.items l.i;
  outer : l.self.outer.items ≡ l.fn.self.outer.items;
}
