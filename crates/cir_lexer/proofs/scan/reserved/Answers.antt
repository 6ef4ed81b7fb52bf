use Rattle.cir_lexer.proofs.Spelled.{reserved_is}
use Rattle.cir_lexer.proofs.scan.reserved.Goals as goal

pub returns : goal.returns
returns c =
    reserved_is c.args.name.now _ c.find_reserved.result c.words_from.ensures
    c.find_reserved.ensures
