use Rattle.std.proofs.Common.{◌≡◌, ◌++◌, drop, map}
use Rattle.cir_emit.specs.Tasks.{all_elements}
use Rattle.wit_statements.specs.Asked.{element_of}
use Rattle.cir_make.specs.Steps.{elements_of}
use Rattle.cir_make.proofs.work.all_elements.Given as goal

abbrev pub invariant-loop-each : goal.invariant-loop-each
invariant-loop-each l =
    map element_of l.elements.items
    ++ all_elements (map elements_of (drop l.each-index l.wanted))
    ≡ all_elements (map elements_of l.wanted)
