use Rattle.cir_lexer.proofs.Spelled.{symbol_is}
use Rattle.cir_lexer.proofs.scan.symbol.Goals as goal

pub returns-in_default : goal.returns-in_default
returns-in_default c =
    symbol_is c.args.text.now _ c.find_symbol.result c.symbols_from.ensures c.find_symbol.ensures
