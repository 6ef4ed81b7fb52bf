use Rattle.std.proofs.Common.{arith}
use Rattle.cir_lexer.proofs.Taking.{quoted_body_is, quote_open, take_rest}
use Rattle.cir_lexer.proofs.scan.quoted_body.Goals as goal

pub returns-then-rest-len-eq34-clause-some : goal.returns-then-rest-len-eq34-clause-some
returns-then-rest-len-eq34-clause-some c =
    quoted_body_is c.args.text.now _ _ (take_rest c.args.text.now 1) c.requires.some
    c.requires.class c.quotable_len-len.ensures c.if-len-rest.true c.if-rest-len-eq34.true

pub returns-else-len-rest-clause-none : goal.returns-else-len-rest-clause-none
returns-else-len-rest-clause-none c =
    quote_open c.args.text.now _ _ (take_rest c.args.text.now 1) c.requires.some c.requires.class
    c.quotable_len-len.ensures (λ l. elim c.else-len-rest.branch [
      | goal.else-len-rest-via-then-len-rest+else-rest-len-eq34 w ↦ w.if-rest-len-eq34.false
      | goal.else-len-rest-via-else-len-rest w ↦ absurd (omega (arith, l, w.if-len-rest.false))
    ])
