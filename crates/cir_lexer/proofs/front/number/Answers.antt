use Rattle.cir_lexer.proofs.Taking.{faults, takes_number, wide_number}
use Rattle.cir_lexer.proofs.front.number.Goals as goal

pub returns-in_default : goal.returns-in_default
returns-in_default c =
    faults c.args.text.now c.args.offset _ _ c.fault_at.ensures
    (wide_number c.args.text.now c.numeral-len.result.0 c.numeral-len.result.1 c.in_default.is
    c.numeral-len.ensures)

pub returns : goal.returns
returns c =
    takes_number c.args.text.now c.args.offset _ _ c.numeral-len.result.0 c.in-Some.value
    (rw c.in-Some.is at c.numeral-len.ensures) c.in_ok-push.ensures.ok
