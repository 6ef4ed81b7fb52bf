use Rattle.cir_determined.proofs.Texts.{rules_again}
use Rattle.cir_determined.proofs.laws.written_rules_are_read.Goals as goal

pub returns : goal.returns
returns c = rules_again
