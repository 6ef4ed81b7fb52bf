use Rattle.cir_resolve.specs.Definitions.{bare_definition, first_numbers, named_next}
use Rattle.cir_resolve.specs.Answers.{names_in, numbers_of}
use Rattle.cir_resolve.proofs.InTurn.{IsGiven}
use Rattle.cir_resolve.proofs.resolving.resolve.Given as goal

abbrev pub invariant-loop-i : goal.invariant-loop-i
invariant-loop-i l =
    IsGiven bare_definition (named_next (names_in l.defined)) first_numbers (numbers_of l.numbers)
    l.initial.definitions.items l.definitions.items l.i
