use Rattle.std.proofs.Common.{◌≡◌, ◌+◌, ℕ, List, All, length, get_or, take, drop, arith, ap, sym}
use Rattle.std.proofs.Common.{◌∙◌, subst}
use Rattle.std.proofs.lemmas.Bool.{false≢true}
use Rattle.std.proofs.lemmas.List.{take_at}
use Rattle.gold_field.specs.Form.{ConstraintBelow}
use Rattle.cir_determined.specs.declared.marks.Mark.{Mark}
use Rattle.cir_determined.specs.declared.rule.Rule.{Rule}
use Rattle.cir_determined.specs.declared.rule.Rule.TheVariants.{Solve}
use Rattle.cir_determined.specs.Circuit.{Circuit}
use Rattle.cir_determined.proofs.Verdicts.{HasShown, rule_more, bad_rule, applies_same, shown_same}
use Rattle.cir_determined.proofs.verdict.confirm.Goals as goal

pub step_at-requires : goal.step_at-requires
step_at-requires c =
    subst (λ (n : ℕ). All (ConstraintBelow n) c.args.constraints.now)
    (sym (ap length c.deref_mut.ensures.value ∙ c.loop-rule.invariant.0.long)) c.requires.below

pub returns-then-not-branch : goal.returns-then-not-branch
returns-then-not-branch c =
    let k : Circuit = record {
      constraints = c.args.constraints.now;
      wires = c.args.wires;
      outputs = c.args.outputs;
      inputs = c.args.inputs;
    } in
    let r : Rule = get_or c.args.rules.now c.loop-rule.rule-index (Solve 0 0) in
    bad_rule k c.args.rules.now c.loop-rule.rule-index (Solve 0 0) c.loop-rule.marks.items
    c.loop-rule.index c.loop-rule.invariant.1 (omega arith) c.loop-rule.invariant.0
    (λ a. false≢true (sym c.if-not-branch.true ∙ c.in_ok-step_at.ensures.applies.1
    (applies_same c.args.constraints.now c.args.wires (length c.deref_mut.result.now)
    c.loop-rule.marks.items c.deref_mut.result.now r
    (sym (ap length c.deref_mut.ensures.value ∙ c.loop-rule.invariant.0.long))
    (sym c.deref_mut.ensures.value) a)))

pub loop-rule-preserved : goal.loop-rule-preserved
loop-rule-preserved c =
    let k : Circuit = record {
      constraints = c.args.constraints.now;
      wires = c.args.wires;
      outputs = c.args.outputs;
      inputs = c.args.inputs;
    } in
    let i : ℕ = c.loop-rule.rule-index in
    let r : Rule = get_or c.args.rules.now c.loop-rule.rule-index (Solve 0 0) in
    let items : List Mark = c.loop-rule.marks.items in
    let new : List Mark = c.step_at.new.marks in
    let wide : length c.deref_mut.result.now ≡ c.args.wires =
    ap length c.deref_mut.ensures.value ∙ c.loop-rule.invariant.0.long in
    let long : length c.step_at.new.marks ≡ c.loop-rule.marks.len =
    omega (arith, c.step_at.auto.marks, c.deref_mut.ensures.len) in (
      subst (λ (xs : List Mark). HasShown k (take (i + 1) c.args.rules.now) xs)
          (sym (take_at new (drop (length new) items) c.loop-rule.marks.len long))
          (rule_more k c.args.rules.now i (Solve 0 0) items new (omega arith)
          c.loop-rule.invariant.0
          (applies_same c.args.constraints.now (length c.deref_mut.result.now) c.args.wires
          c.deref_mut.result.now items r wide c.deref_mut.ensures.value
          (c.in_ok-step_at.ensures.applies.0 c.if-not-branch.false))
          (c.in_ok-step_at.ensures.shows c.if-not-branch.false
          ∙ shown_same c.args.constraints.now (length c.deref_mut.result.now) c.args.wires
          c.deref_mut.result.now items r wide c.deref_mut.ensures.value)
          (c.step_at.auto.marks ∙ ap length c.deref_mut.ensures.value)),
      omega arith,
    )
