use Rattle.cir_lexer.proofs.Unique.{reading_same}
use Rattle.cir_lexer.proofs.one_reading.Goals as goal

pub returns : goal.returns
returns c = reading_same
