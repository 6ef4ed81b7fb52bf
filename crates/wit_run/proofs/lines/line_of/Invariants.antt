use Rattle.std.proofs.Common.{◌≡◌, take}
use Rattle.wit_run.specs.Lines.{cells_in, line_text}
use Rattle.wit_run.proofs.lines.line_of.Given as goal

abbrev pub invariant-loop-place : goal.invariant-loop-place
invariant-loop-place l = l.text.items ≡ line_text (cells_in l.held) (take l.place l.parts)
