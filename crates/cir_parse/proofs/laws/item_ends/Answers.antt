use Rattle.cir_parse.proofs.laws.item_ends.Goals as goal
use Rattle.cir_parse.proofs.Files.{item_ends as law}

pub returns : goal.returns
returns c = law
