use Rattle.cir_determined.proofs.Texts.{line_just}
use Rattle.cir_determined.proofs.laws.rules_have_one_line.Goals as goal

pub returns : goal.returns
returns c = line_just
