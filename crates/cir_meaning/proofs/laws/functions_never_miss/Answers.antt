use Rattle.cir_meaning.proofs.RunLaws.{never_miss}
use Rattle.cir_meaning.proofs.laws.functions_never_miss.Goals as goal

pub returns : goal.returns
returns c = never_miss
