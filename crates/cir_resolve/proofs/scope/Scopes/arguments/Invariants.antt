use Rattle.cir_ast.specs.Tree.{bare_argument}
use Rattle.cir_resolve.specs.Naming.{named_argument}
use Rattle.cir_resolve.specs.Answers.{state_of}
use Rattle.cir_resolve.proofs.InTurn.{IsChanged}
use Rattle.cir_resolve.proofs.scope.Scopes.arguments.Given as goal

abbrev pub invariant-loop-i : goal.invariant-loop-i
invariant-loop-i l =
    IsChanged bare_argument (named_argument (state_of l.self)) l.initial.all.items l.all.items l.i
