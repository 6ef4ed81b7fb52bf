use Rattle.std.proofs.Common.{◌≡◌, ◌+◌, ◌≤◌, drop}
use Rattle.cir_ast.specs.Tree.{as_accessors}
use Rattle.cir_checks.specs.Uses.{members}
use Rattle.cir_checks.proofs.calls.members.Given as goal

-- what is counted and what is left make the whole
abbrev pub invariant-loop-accessor : goal.invariant-loop-accessor
invariant-loop-accessor l = record {
  counted : l.members + members (as_accessors (drop l.accessor-index l.accessors))
      ≡ members (as_accessors l.accessors);
  within : l.members ≤ l.accessor-index;
}
