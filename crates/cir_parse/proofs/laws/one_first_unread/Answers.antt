use Rattle.cir_parse.proofs.Files.{one_first_unread as law}
use Rattle.cir_parse.proofs.laws.one_first_unread.Goals as goal

pub returns : goal.returns
returns c = law (Unit {0})
