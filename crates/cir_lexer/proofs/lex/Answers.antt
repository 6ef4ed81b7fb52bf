use Rattle.std.proofs.Common.{[], arith, subst}
use Rattle.cir_lexer.specs.Steps.{Takes}
use Rattle.cir_lexer.proofs.Taking.{takes_none, takes_more, take_rest}
use Rattle.cir_lexer.proofs.lex.Goals as goal

pub loop-at-init : goal.loop-at-init
loop-at-init c = takes_none c.args.bytes.now 0 [] _ c.new-tokens.ensures.items

pub loop-at-preserved : goal.loop-at-preserved
loop-at-preserved c =
    takes_more c.args.bytes.now 0 c.loop-at.at c.loop-at.at [] c.loop-at.tokens.items
    c.step.new.tokens.items c.in_ok-at.field-0 (omega arith) c.loop-at.invariant
    (subst (λ t. Takes t c.loop-at.at c.loop-at.tokens.items c.step.new.tokens.items
    c.in_ok-at.field-0) (take_rest c.args.bytes.now c.loop-at.at) c.in_ok-at.ensures.1)
