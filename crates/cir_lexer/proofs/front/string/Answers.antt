use Rattle.std.proofs.Common.{refl, arith, [], ◌∷◌}
use Rattle.cir_lexer.specs.Reading.{InString}
use Rattle.cir_lexer.proofs.Taking.{takes_token, string_is, bad_body, length-append}
use Rattle.cir_lexer.proofs.front.string.Goals as goal

pub returns-in_err-characters : goal.returns-in_err-characters
returns-in_err-characters c =
    bad_body c.args.text.now c.args.offset _ _ c.from_residual.result _ 1 _
    c.from_residual.ensures.1 c.in_err-characters.ensures.err.1
    (InString c.in-Some.body.now c.in-Some.ensures.some.0 c.in-Some.ensures.some.1
    c.in_err-characters.ensures.err.0 refl)

pub returns : goal.returns
returns c =
    takes_token c.args.text.now c.args.offset _ _ _ _ _ _
    (string_is c.args.text.now c.in-Some.body.now c.in-Some.ensures.some.0
    c.in_ok-from_slice.field-0 c.requires.here.class c.in-Some.ensures.some.1
    c.in_ok-characters.ensures.ok c.in_ok-from_slice.ensures)
    tt (omega (arith, length-append c.in-Some.body.now (34 ∷ []))) c.in_ok-push.ensures.ok
