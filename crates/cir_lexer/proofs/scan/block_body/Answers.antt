use Rattle.cir_lexer.proofs.Taking.{block_body_is, block_open, take_rest}
use Rattle.cir_lexer.proofs.scan.block_body.Goals as goal

pub returns-in-Some-clause-some : goal.returns-in-Some-clause-some
returns-in-Some-clause-some c =
    block_body_is c.args.text.now _ _ (take_rest c.args.text.now 2) c.requires c.in-Some.ensures

pub returns-in-None-clause-none : goal.returns-in-None-clause-none
returns-in-None-clause-none c =
    block_open c.args.text.now _ (take_rest c.args.text.now 2) c.requires c.in-None.ensures
