use Rattle.std.proofs.Common.{refl, ap, arith, length, ◌∷◌}
use Rattle.cir_lexer.specs.Reading.{Line, Block, InLine, InBlock}
use Rattle.cir_lexer.proofs.Taking.{takes_gap, bad_body, length-append}
use Rattle.cir_lexer.proofs.front.comment_or_symbol.Goals as goal

pub returns-in_err-characters : goal.returns-in_err-characters
returns-in_err-characters c = let l = c.line_body-body.ensures in
    bad_body c.args.text.now c.args.offset _ _ c.from_residual.result _ 2 _
    c.from_residual.ensures.1 c.in_err-characters.ensures.err.1
    (InLine c.line_body-body.result.now l.0 l.1 c.in_err-characters.ensures.err.0 refl)

pub returns-in_ok-characters : goal.returns-in_ok-characters
returns-in_ok-characters c = let l = c.line_body-body.ensures in
    takes_gap c.args.text.now c.args.offset _ _ l.0
    (Line c.line_body-body.result.now l.1 c.in_ok-characters.ensures.ok) (omega arith)
    (omega (arith, ap length l.1.begins, length-append c.line_body-body.result.now l.0))

pub returns-in_err-characters-2 : goal.returns-in_err-characters-2
returns-in_err-characters-2 c = let l = c.in-Some.ensures.some in
    bad_body c.args.text.now c.args.offset _ _ c.from_residual-in_err-characters-2.result _ 2 _
    c.from_residual-in_err-characters-2.ensures.1 c.in_err-characters-2.ensures.err.1
    (InBlock c.in-Some.body.now l.0 l.1 c.in_err-characters-2.ensures.err.0 refl)

pub returns-in_ok-characters-2 : goal.returns-in_ok-characters-2
returns-in_ok-characters-2 c = let l = c.in-Some.ensures.some in
    takes_gap c.args.text.now c.args.offset _ _ l.0
    (Block c.in-Some.body.now l.1 c.in_ok-characters-2.ensures.ok) (omega arith)
    (omega (arith, ap length l.1.begins, length-append c.in-Some.body.now (42 ∷ 47 ∷ l.0)))
