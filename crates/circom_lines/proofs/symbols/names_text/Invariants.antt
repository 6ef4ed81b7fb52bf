use Rattle.std.proofs.Common.{◌≡◌, ◌++◌, drop}
use Rattle.circom_lines.specs.Symbols.{names_text}
use Rattle.circom_lines.proofs.symbols.names_text.Given as goal

-- what is made, and the text of the names that are left, is the text of all
abbrev pub invariant-loop-name : goal.invariant-loop-name
invariant-loop-name l = l.text.items ++ names_text (drop l.name-index l.names) ≡ names_text l.names
