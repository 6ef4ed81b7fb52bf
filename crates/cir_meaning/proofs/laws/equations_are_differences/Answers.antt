use Rattle.cir_meaning.proofs.FineLaws.{differences}
use Rattle.cir_meaning.proofs.laws.equations_are_differences.Goals as goal

pub returns : goal.returns
returns c = differences
