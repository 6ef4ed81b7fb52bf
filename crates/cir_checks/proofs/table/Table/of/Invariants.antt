use Rattle.std.proofs.Common.{◌≡◌, drop}
use Rattle.std.specs.Prelude.{map}
use Rattle.cir_resolve.specs.Definitions.{bare_definition}
use Rattle.cir_checks.specs.Checks.{table_among}
use Rattle.cir_checks.specs.Answers.{table_with}
use Rattle.cir_checks.proofs.table.Table.of.Given as goal

-- what is left to add leads to the same
abbrev pub invariant-loop-definition : goal.invariant-loop-definition
invariant-loop-definition l =
    table_with l.table (map bare_definition (drop l.definition-index l.definitions))
    ≡ table_among (map bare_definition l.definitions)
