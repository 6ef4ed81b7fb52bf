use Rattle.std.proofs.Common.{◌≡◌, ℕ, ◌+◌, ◌-◌, ◌<◌, ◌≤◌, sum_by, Option}
use Rattle.std.proofs.Common.{Err, arith, ap, sym, subst, ◌∙◌}
use Rattle.cir_simplify.specs.declared.types.Solved.{Solved}
use Rattle.cir_simplify.specs.Shape.{terms_in}
use Rattle.cir_simplify.specs.Index.{IsTurn}
use Rattle.cir_simplify.proofs.Turning.{turn_none, turn_some, turn_over}
use Rattle.cir_simplify.proofs.turn.run_turns.Goals as goal

pub returns-in_default-clause-answer : goal.returns-in_default-clause-answer
returns-in_default-clause-answer c =
    let r = c.args.rules in
    let before = c.loop-k.s.rows.items in let now = c.one_turn.new.s.rows.items in
    let T : Option Solved → Type 0 = λ o. IsTurn r before now o in
    sym c.loop-k.invariant.rest
    ∙ turn_none r (c.args.turns - c.loop-k.k) (c.args.turns - (c.loop-k.k + 1)) before now
    c.loop-k.solved (omega arith) (subst T c.in_default.is c.in_ok-equation.ensures.turn)

pub returns-then-s-gt-MOST_TERMS-clause-answer : goal.returns-then-s-gt-MOST_TERMS-clause-answer
returns-then-s-gt-MOST_TERMS-clause-answer c =
    let r = c.args.rules in
    let before = c.loop-k.s.rows.items in let now = c.one_turn.new.s.rows.items in
    let T : Option Solved → Type 0 = λ o. IsTurn r before now o in
    let counted : c.one_turn.new.s.terms ≡ sum_by terms_in now =
    c.in_ok-equation.ensures.indexed.counted in
    let many : 8388608 < sum_by terms_in now = omega arith in
    sym c.loop-k.invariant.rest
    ∙ turn_over r (c.args.turns - c.loop-k.k) (c.args.turns - (c.loop-k.k + 1)) before now
    c.loop-k.solved (omega arith) c.in-Some.equation
    (subst T c.in-Some.is c.in_ok-equation.ensures.turn) many
    ∙ ap (λ (n : ℕ). Err n) (sym counted)

pub loop-k-preserved : goal.loop-k-preserved
loop-k-preserved c =
    let r = c.args.rules in
    let before = c.loop-k.s.rows.items in let now = c.one_turn.new.s.rows.items in
    let T : Option Solved → Type 0 = λ o. IsTurn r before now o in
    let counted : c.one_turn.new.s.terms ≡ sum_by terms_in now =
    c.in_ok-equation.ensures.indexed.counted in
    let few : sum_by terms_in now ≤ 8388608 = omega arith in
    record {
      indexed = c.in_ok-equation.ensures.indexed;
      rest =
          sym (turn_some r (c.args.turns - c.loop-k.k) (c.args.turns - (c.loop-k.k + 1)) before now
          c.loop-k.solved (omega arith) c.in-Some.equation
          (subst T c.in-Some.is c.in_ok-equation.ensures.turn) c.push.new.self
          c.in_ok-push.ensures.ok few)
          ∙ c.loop-k.invariant.rest;
    }
