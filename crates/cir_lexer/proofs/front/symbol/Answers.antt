use Rattle.std.proofs.Common.{ap, length}
use Rattle.cir_lexer.proofs.Taking.{no_pairs, faults, takes_token, symbol_token, stray_symbol}
use Rattle.cir_lexer.proofs.front.symbol.Goals as goal

pub returns-in_default : goal.returns-in_default
returns-in_default c =
    faults c.args.text.now c.args.offset _ _ c.fault_at.ensures
    (stray_symbol c.args.text.now c.requires.here.some c.requires.here.class c.in_default.ensures)

pub returns : goal.returns
returns c =
    takes_token c.args.text.now c.args.offset _ _ _ _ _ _
    (symbol_token c.args.text.now c.in-Some.symbol c.requires.here.class
    (no_pairs c.args.text.now c.requires.no_line c.requires.no_block) c.in-Some.ensures)
    tt (ap length c.spelling-len.ensures) c.in_ok-push.ensures.ok
