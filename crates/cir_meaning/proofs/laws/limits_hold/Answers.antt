use Rattle.cir_meaning.proofs.CountingBodies.{all_few}
use Rattle.cir_meaning.proofs.RunLaws.{names_few}
use Rattle.cir_meaning.proofs.laws.limits_hold.Goals as goal

pub returns-clause-world : goal.returns-clause-world
returns-clause-world c = all_few

pub returns-clause-names : goal.returns-clause-names
returns-clause-names c = names_few
