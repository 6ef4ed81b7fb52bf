use Rattle.std.proofs.Common.{◌≡◌, ◌++◌, drop}
use Rattle.wit_input.specs.Publics.{others_text}
use Rattle.wit_input.proofs.publics.push_others.Given as goal

-- what is written, with the numbers that are left, is all
abbrev pub invariant-loop-value : goal.invariant-loop-value
invariant-loop-value l =
    l.text.items ++ others_text (drop l.value-index l.values)
    ≡ l.initial.text.items ++ others_text l.values
