use Rattle.std.proofs.Common.{◌≡◌, ◌-◌, length, map}
use Rattle.cir_expression.specs.Answers.{kinds}
use Rattle.cir_expression.specs.Combinators.{parted_by}
use Rattle.cir_simple_statement.proofs.lists.separated_behind.Given as goal

abbrev pub invariant-loop : goal.invariant-loop
invariant-loop g l =
    parted_by l.mark (length (kinds l.fn.reader.rest.now)) (g.E.Element.reading l.room)
    (map g.E.Element.seen l.fn.before.items) (kinds l.fn.reader.rest.now)
    ≡ parted_by l.mark (length l.fn.reader.rest.now - l.counter) (g.E.Element.reading l.room)
    (map g.E.Element.seen l.elements.items) (kinds l.reader.rest.now)
