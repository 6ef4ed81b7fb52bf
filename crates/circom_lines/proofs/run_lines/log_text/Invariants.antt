use Rattle.std.proofs.Common.{◌≡◌, ◌++◌, drop}
use Rattle.circom_lines.specs.RunLines.{log_text}
use Rattle.circom_lines.proofs.run_lines.log_text.Given as goal

-- what is made, and the text of the lines that are left, is the text of all
abbrev pub invariant-loop-line : goal.invariant-loop-line
invariant-loop-line l = l.text.items ++ log_text (drop l.line-index l.lines) ≡ log_text l.lines
