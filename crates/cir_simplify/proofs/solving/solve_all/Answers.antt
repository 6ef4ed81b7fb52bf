use Rattle.std.proofs.Common.{◌∙◌, sym, subst, Result, ℕ}
use Rattle.cir_simplify.specs.Turn.{Simplified}
use Rattle.cir_simplify.specs.Answer.{AnswersFault}
use Rattle.cir_simplify.proofs.Holes.{over_start, fits_start}
use Rattle.cir_simplify.proofs.solving.solve_all.Goals as goal

pub returns-then-s-gt-MOST_TERMS-clause-answer : goal.returns-then-s-gt-MOST_TERMS-clause-answer
returns-then-s-gt-MOST_TERMS-clause-answer c =
    over_start c.args.rules c.args.list.now _ _ c.in_ok-s.ensures.rows
    c.in_ok-s.ensures.indexed.counted c.if-s-gt-MOST_TERMS.true

pub returns-clause-answer : goal.returns-clause-answer
returns-clause-answer c =
    fits_start c.args.rules c.args.list.now c.in_ok-s.s.rows.items c.new-solved.result _
    c.in_ok-s.ensures.rows c.new-solved.ensures c.in_ok-s.ensures.indexed.counted
    c.if-s-gt-MOST_TERMS.false
    ∙ c.in_default.ensures.answer

pub returns-in-Err-clause-answer : goal.returns-in-Err-clause-answer
returns-in-Err-clause-answer c =
    let start = fits_start c.args.rules c.args.list.now c.in_ok-s.s.rows.items c.new-solved.result _
    c.in_ok-s.ensures.rows c.new-solved.ensures c.in_ok-s.ensures.indexed.counted
    c.if-s-gt-MOST_TERMS.false in
    subst (λ (w : Result Simplified ℕ). AnswersFault c.in-Err.fault w) (sym start)
    c.in-Err.ensures.answer
