use Rattle.std.proofs.Common.{ℕ, ◌<◌, drop}
use Rattle.cir_lexer.specs.Reading.{Closes}
use Rattle.cir_lexer.proofs.scan.close_at.Given as goal

abbrev pub invariant-loop-at : goal.invariant-loop-at
invariant-loop-at l = (k : ℕ) → k < l.at → ¬ Closes (drop k l.text)
