use Rattle.std.proofs.Common.{◌≤◌, length}
use Rattle.std.specs.Prelude.{map}
use Rattle.cir_expression.specs.Answers.{kinds}
use Rattle.cir_parse.specs.Answers.{seen_item}
use Rattle.cir_parse.proofs.Files.{IsSoFar}
use Rattle.cir_parse.proofs.parsing.parse_marked.Given as goal

abbrev pub invariant-loop-reader : goal.invariant-loop-reader
invariant-loop-reader g l =
    IsSoFar (g.M.Marks.mark l.marks) (kinds l.fn.tokens) (map seen_item l.items.items)
    (kinds l.reader.rest.now) × (length l.reader.rest.now ≤ length l.fn.tokens)

abbrev pub decreases-loop-reader : goal.decreases-loop-reader
decreases-loop-reader g l = length l.reader.rest.now
