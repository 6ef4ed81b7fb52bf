use Rattle.std.proofs.Common.{◌≡◌, ◌+◌, ◌≤◌, drop}
use Rattle.cir_ast.specs.Tree.{as_accessors}
use Rattle.cir_meaning.specs.Reached.{indices_count}
use Rattle.wit_statements.proofs.assigning.indices_count.Given as goal

abbrev pub invariant-loop-accessor : goal.invariant-loop-accessor
invariant-loop-accessor l =
    (l.count + indices_count (as_accessors (drop l.accessor-index l.accessors))
    ≡ indices_count (as_accessors l.accessors)) × (l.count ≤ l.accessor-index)
