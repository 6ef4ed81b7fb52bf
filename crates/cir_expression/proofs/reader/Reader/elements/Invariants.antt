use Rattle.std.proofs.Common.{◌-◌, [], ◌∷◌, length, map}
use Rattle.cir_token.specs.declared.token.Symbol.TheVariants.{CloseParenthesis}
use Rattle.cir_expression.specs.Reading.{element, elements_to}
use Rattle.cir_expression.specs.Answers.{kinds, seen_element}
use Rattle.cir_expression.proofs.Lists.{Onward}
use Rattle.cir_expression.proofs.reader.Reader.elements.Given as goal

abbrev pub invariant-loop : goal.invariant-loop
invariant-loop g l = Onward CloseParenthesis (element l.room)
    (length l.fn.self.rest.now - l.counter)
    (map seen_element l.elements.items) (kinds l.self.rest.now)
    (elements_to (length (kinds l.fn.self.rest.now)) l.room (seen_element l.fn.first ∷ [])
    (kinds l.fn.self.rest.now))
