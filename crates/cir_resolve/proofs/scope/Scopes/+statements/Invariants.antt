use Rattle.std.proofs.Common.{◌≡◌, ◌+◌, ◌*◌}
use Rattle.cir_ast.specs.Tree.{bare_statement}
use Rattle.cir_resolve.specs.Naming.{named_statement}
use Rattle.cir_resolve.specs.Answers.{state_of}
use Rattle.cir_resolve.proofs.InTurn.{IsGiven}
use Rattle.cir_resolve.proofs.scope.Scopes.+statements.Given as goal

abbrev pub decreases-statement : goal.decreases-statement
decreases-statement l = 8 * goal.size-statement l + 2

abbrev pub decreases-branch : goal.decreases-branch
decreases-branch l = 8 * goal.size-branch l + 3

abbrev pub decreases-for_loop : goal.decreases-for_loop
decreases-for_loop l = 8 * goal.size-for_loop l + 3

abbrev pub decreases-body : goal.decreases-body
decreases-body l = 8 * goal.size-body l + 4

abbrev pub decreases-block : goal.decreases-block
decreases-block l = 8 * goal.size-block l + 5

abbrev pub invariant-body-loop-i : goal.invariant-body-loop-i
invariant-body-loop-i l = record {
  given : IsGiven bare_statement named_statement (state_of l.fn.self)
      (state_of l.self) l.initial.all.items l.all.items l.i;
  outer : l.self.outer.items ≡ l.fn.self.outer.items;
}
