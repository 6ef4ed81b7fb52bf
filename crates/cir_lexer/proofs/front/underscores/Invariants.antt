use Rattle.cir_lexer.specs.Steps.{Takes}
use Rattle.cir_lexer.proofs.front.underscores.Given as goal

-- a token for each `_` so far
abbrev pub invariant-loop-i : goal.invariant-loop-i
invariant-loop-i l = Takes l.text l.offset l.fn.tokens.items l.tokens.items l.i
