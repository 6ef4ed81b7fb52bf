use Rattle.cir_resolve.specs.Definitions.{bare_definition}
use Rattle.cir_checks.specs.Checks.{use_fault}
use Rattle.cir_checks.specs.Answers.{table_in}
use Rattle.cir_checks.proofs.Finding.{SameFault}
use Rattle.cir_checks.proofs.checking.checks.Given as goal

abbrev pub invariant-loop-definition : goal.invariant-loop-definition
invariant-loop-definition l =
    SameFault (use_fault (table_in l.table)) bare_definition l.definition-index l.definitions
