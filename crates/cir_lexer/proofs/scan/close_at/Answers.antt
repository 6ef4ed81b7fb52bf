use Rattle.std.proofs.Common.{arith, sym}
use Rattle.cir_lexer.proofs.Taking.{close_later, close_none, take_rest}
use Rattle.cir_lexer.proofs.scan.close_at.Goals as goal

pub loop-at-preserved : goal.loop-at-preserved
loop-at-preserved c =
    close_later c.args.text.now _ c.loop-at.at (take_rest c.args.text.now c.loop-at.at)
    (sym c.if-begins_pair.ensures) c.loop-at.invariant

pub returns : goal.returns
returns c = close_none c.args.text.now c.loop-at.at (omega arith) c.loop-at.invariant
