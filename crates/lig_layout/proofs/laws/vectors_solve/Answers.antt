use Rattle.lig_layout.proofs.Solving.{solves}
use Rattle.lig_layout.proofs.laws.vectors_solve.Goals as goal

pub returns : goal.returns
returns c = solves
