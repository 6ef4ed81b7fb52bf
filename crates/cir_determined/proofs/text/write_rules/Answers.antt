use Rattle.std.proofs.Common.{◌≡◌, ℕ, ◌<◌, List, [], ◌∷◌, ◌++◌, get_or}
use Rattle.std.proofs.Common.{length, take, All, subst, sym, ap, ◌∙◌, arith}
use Rattle.std.proofs.lemmas.List.{take_all}
use Rattle.std.proofs.lemmas.List.Elements.{All-more}
use Rattle.cir_determined.specs.declared.rule.Rule.{Rule}
use Rattle.cir_determined.specs.declared.rule.Rule.TheVariants.{Solve}
use Rattle.cir_determined.specs.Text.{rules_text, rules_of, line_of, IsNarrow}
use Rattle.cir_determined.proofs.Texts.{rules_again, text_more}
use Rattle.cir_determined.proofs.text.write_rules.Goals as goal

pub loop-rule-preserved : goal.loop-rule-preserved
loop-rule-preserved c =
    let rules : List Rule = c.args.rules.now in
    let d : Rule = Solve 0 0 in
    let low : c.loop-rule.rule-index < length rules = omega arith in record {
      text = c.in_ok-put_rule.ensures.text
          ∙ (ap (λ (l : List ℕ). l ++ (line_of (get_or rules c.loop-rule.rule-index d) ++ 10 ∷ []))
          c.loop-rule.invariant.text
          ∙ sym (text_more rules c.loop-rule.rule-index d low));
      narrow = All-more IsNarrow rules c.loop-rule.rule-index d low c.loop-rule.invariant.narrow
          c.put_rule.ensures.narrow;
    }

pub returns-clause-read_back : goal.returns-clause-read_back
returns-clause-read_back c =
    let all : take c.loop-rule.rule-index c.args.rules.now ≡ c.args.rules.now =
    take_all c.loop-rule.rule-index c.args.rules.now (omega arith) in
    let narrow : All IsNarrow c.args.rules.now =
    subst (All IsNarrow) all c.loop-rule.invariant.narrow in
    λ few. ap rules_of (c.loop-rule.invariant.text ∙ ap rules_text all)
    ∙ rules_again c.args.rules.now narrow few
