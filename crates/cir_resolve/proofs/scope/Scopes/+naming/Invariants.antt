use Rattle.std.proofs.Common.{◌+◌, ◌*◌}
use Rattle.cir_ast.specs.Tree.{bare}
use Rattle.cir_resolve.specs.Naming.{named_expr, named_accessors, named_each}
use Rattle.cir_resolve.specs.Answers.{state_of}
use Rattle.cir_resolve.proofs.InTurn.{IsChanged}
use Rattle.cir_resolve.proofs.Named.{one_accessor, one_input}
use Rattle.cir_resolve.proofs.scope.Scopes.+naming.Given as goal

abbrev pub decreases-name : goal.decreases-name
decreases-name l = 8 * goal.size-name l

abbrev pub decreases-name_all : goal.decreases-name_all
decreases-name_all l = 8 * goal.size-name_all l + 2

abbrev pub decreases-name_each : goal.decreases-name_each
decreases-name_each l = 8 * goal.size-name_each l + 2

abbrev pub decreases-name_accessors : goal.decreases-name_accessors
decreases-name_accessors l = 8 * goal.size-name_accessors l + 3

abbrev pub decreases-name_place : goal.decreases-name_place
decreases-name_place l = 8 * goal.size-name_place l + 4

abbrev pub decreases-name_anonymous : goal.decreases-name_anonymous
decreases-name_anonymous l = 8 * goal.size-name_anonymous l + 4

abbrev pub invariant-name_accessors-loop-i : goal.invariant-name_accessors-loop-i
invariant-name_accessors-loop-i l =
    IsChanged one_accessor (named_accessors (state_of l.self)) l.initial.all.items l.all.items l.i

abbrev pub invariant-name_all-loop-i : goal.invariant-name_all-loop-i
invariant-name_all-loop-i l =
    IsChanged bare (named_expr (state_of l.self)) l.initial.all.items l.all.items l.i

abbrev pub invariant-name_each-loop-i : goal.invariant-name_each-loop-i
invariant-name_each-loop-i l =
    IsChanged one_input (named_each (state_of l.self)) l.initial.all.items l.all.items l.i
