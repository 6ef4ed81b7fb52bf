use Rattle.std.proofs.Common.{◌≡◌, ◌-◌, length}
use Rattle.std.specs.Prelude.{map}
use Rattle.cir_parse.specs.Answers.{seen_argument}
use Rattle.cir_parse.specs.Reading.{argument}
use Rattle.cir_expression.specs.Answers.{kinds}
use Rattle.cir_expression.specs.Combinators.{separated, separated_by}
use Rattle.cir_parse.proofs.statements.argument_list.Given as goal

abbrev pub invariant-loop : goal.invariant-loop
invariant-loop g l =
    separated (argument l.room) (kinds l.fn.reader.rest.now)
    ≡ separated_by (length l.fn.reader.rest.now - l.counter) (argument l.room)
    (map seen_argument l.arguments.items) (kinds l.reader.rest.now)
