use Rattle.std.proofs.Common.{◌≡◌, take, All}
use Rattle.cir_determined.specs.Text.{rules_text, IsNarrow}
use Rattle.cir_determined.proofs.text.write_rules.Given as goal

abbrev pub invariant-loop-rule : goal.invariant-loop-rule
invariant-loop-rule l = record {
  text : l.text.items ≡ rules_text (take l.rule-index l.rules);
  narrow : All IsNarrow (take l.rule-index l.rules);
}
