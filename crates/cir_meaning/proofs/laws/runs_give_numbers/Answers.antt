use Rattle.cir_meaning.proofs.SmallMains.{values_below, values_assigned}
use Rattle.cir_meaning.proofs.laws.runs_give_numbers.Goals as goal

pub returns-clause-below : goal.returns-clause-below
returns-clause-below c = values_below

pub returns-clause-assignment : goal.returns-clause-assignment
returns-clause-assignment c = values_assigned
