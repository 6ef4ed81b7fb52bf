use Rattle.cir_lexer.proofs.Taking.{line_body_is, take_rest}
use Rattle.cir_lexer.proofs.scan.line_body.Goals as goal

pub returns : goal.returns
returns c =
    line_body_is c.args.text.now _ _ (take_rest c.args.text.now 2) c.requires c.line_len.ensures
