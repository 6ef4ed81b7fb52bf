use Rattle.std.proofs.Common.{◌≡◌, map}
use Rattle.cir_expression.specs.Answers.{seen_element}
use Rattle.cir_simple_statement.specs.Reading.{each_of}
use Rattle.cir_simple_statement.proofs.Steps.{with_before}
use Rattle.cir_simple_statement.proofs.targets.parts.Given as goal

abbrev pub invariant-loop-element : goal.invariant-loop-element
invariant-loop-element g l =
    each_of g.P.Part.meaning (map seen_element l.fn.elements.items)
    ≡ with_before (map g.P.Part.plain (map g.P.Part.bare l.parts.items))
    (each_of g.P.Part.meaning (map seen_element l.element-iterator.rest.items))
