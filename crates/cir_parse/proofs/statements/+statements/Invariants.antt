use Rattle.std.proofs.Common.{◌≡◌, ◌-◌, ◌+◌, ◌*◌, length}
use Rattle.std.specs.Prelude.{map}
use Rattle.cir_parse.specs.Answers.{seen_statement}
use Rattle.cir_expression.specs.Answers.{kinds}
use Rattle.cir_parse.specs.Reading.{statement, statements_by, rest_by}
use Rattle.cir_parse.proofs.statements.+statements.Given as goal

abbrev pub decreases-statement : goal.decreases-statement
decreases-statement g l = 3 * l.room

abbrev pub decreases-rest_of_block : goal.decreases-rest_of_block
decreases-rest_of_block g l = 3 * l.room + 1

abbrev pub decreases-inner_block : goal.decreases-inner_block
decreases-inner_block g l = 3 * l.room + 2

abbrev pub decreases-if_statement : goal.decreases-if_statement
decreases-if_statement g l = 3 * l.room + 2

abbrev pub decreases-while_statement : goal.decreases-while_statement
decreases-while_statement g l = 3 * l.room + 1

abbrev pub decreases-for_statement : goal.decreases-for_statement
decreases-for_statement g l = 3 * l.room + 1

abbrev pub invariant-rest_of_block-loop : goal.invariant-rest_of_block-loop
invariant-rest_of_block-loop g l =
    rest_by (statement (g.M.Marks.mark l.marks) l.room) (kinds l.fn.reader.rest.now)
    ≡ statements_by (length l.fn.reader.rest.now - l.counter)
    (statement (g.M.Marks.mark l.marks) l.room) (map seen_statement l.statements.items)
    (kinds l.reader.rest.now)
