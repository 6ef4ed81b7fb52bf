use Rattle.std.proofs.Common.{map, ap, arith}
use Rattle.std.proofs.lemmas.List.{map-append, nil_from_length}
use Rattle.cir_expression.specs.Answers.{seen_element}
use Rattle.cir_simple_statement.proofs.Steps.{keeps, ends}
use Rattle.cir_simple_statement.proofs.targets.parts.Goals as goal

pub loop-element-preserved : goal.loop-element-preserved
loop-element-preserved g c = rw (c.in_ok-push.ensures.items, map-append, map-append)
    (keeps g.P.Part.meaning _ _ _ _ _ _ c.loop-element.invariant
    (ap (map seen_element) c.in-Some.ensures.steps.0) c.in-Some-of.ensures)

pub returns : goal.returns
returns g c =
    ends g.P.Part.meaning _ _ _ c.loop-element.invariant
    (ap (map seen_element)
    (nil_from_length _
    (omega (arith, c.in-None.ensures.steps.0, c.loop-element.element-iterator.rest.ok))))
