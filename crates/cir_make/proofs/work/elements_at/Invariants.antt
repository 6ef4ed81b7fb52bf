use Rattle.std.proofs.Common.{◌≡◌, ◌++◌, drop, map}
use Rattle.cir_emit.specs.Tasks.{elements_at}
use Rattle.wit_statements.specs.Asked.{element_of}
use Rattle.cir_make.proofs.work.elements_at.Given as goal

abbrev pub invariant-loop-element : goal.invariant-loop-element
invariant-loop-element l =
    map element_of l.elements.items ++ elements_at l.variable (drop l.element-index l.places)
    ≡ elements_at l.variable l.places
