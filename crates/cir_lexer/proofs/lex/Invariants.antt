use Rattle.std.proofs.Common.{[], length, ◌-◌}
use Rattle.cir_lexer.specs.Steps.{Takes}
use Rattle.cir_lexer.proofs.lex.Given as goal

abbrev pub invariant-loop-at : goal.invariant-loop-at
invariant-loop-at l = Takes l.bytes 0 [] l.tokens.items l.at

abbrev pub decreases-loop-at : goal.decreases-loop-at
decreases-loop-at l = length l.bytes - l.at
