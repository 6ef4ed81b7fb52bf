use Rattle.std.proofs.Common.{◌≡◌, drop}
use Rattle.std.specs.Prelude.{map}
use Rattle.cir_resolve.specs.Scope.{nothing}
use Rattle.cir_resolve.specs.Definitions.{bare_definition, first_numbers, defined_by}
use Rattle.cir_resolve.specs.Answers.{names_in, numbers_of}
use Rattle.cir_resolve.proofs.names.Names.of.Given as goal

-- with those that are left these are all
abbrev pub invariant-loop-definition : goal.invariant-loop-definition
invariant-loop-definition l =
    defined_by (names_in l.names) (numbers_of l.numbers)
    (map bare_definition (drop l.definition-index l.definitions))
    ≡ defined_by nothing first_numbers (map bare_definition l.definitions)
