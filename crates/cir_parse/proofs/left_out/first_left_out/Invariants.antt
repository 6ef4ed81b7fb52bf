use Rattle.std.proofs.Common.{◌≡◌, ◌+◌, length}
use Rattle.cir_expression.specs.Answers.{kinds}
use Rattle.cir_parse.specs.LeftOut.{first_left_out}
use Rattle.cir_parse.proofs.left_out.first_left_out.Given as goal

abbrev pub invariant-loop-token : goal.invariant-loop-token
invariant-loop-token l =
    (first_left_out 0 (kinds l.fn.tokens) ≡ first_left_out l.token (kinds l.rest))
    × (length l.rest + l.token ≡ length l.fn.tokens)
