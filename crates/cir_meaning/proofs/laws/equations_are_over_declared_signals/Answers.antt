use Rattle.cir_meaning.proofs.DependingBodies.{all_declared}
use Rattle.cir_meaning.proofs.laws.equations_are_over_declared_signals.Goals as goal

pub returns : goal.returns
returns c = all_declared
