use Rattle.std.proofs.Common.{◌≡◌, ◌++◌, map}
use Rattle.cir_meaning.specs.Places.{numbers_from}
use Rattle.cir_emit.specs.Tasks.{elements_at}
use Rattle.wit_statements.specs.Asked.{element_of}
use Rattle.cir_make.proofs.work.add_elements.Given as goal

abbrev pub invariant-loop-element : goal.invariant-loop-element
invariant-loop-element l =
    map element_of l.elements.items
    ≡ map element_of l.initial.elements.items ++ elements_at l.variable (numbers_from 0 l.element)
