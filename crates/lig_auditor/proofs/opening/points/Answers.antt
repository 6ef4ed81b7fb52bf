use Rattle.std.proofs.Common.{arith}
use Rattle.lig_proof.proofs.Interpolants.{width_is}
use Rattle.lig_auditor.proofs.opening.points.Goals as goal

pub root-root-requires : goal.root-root-requires
root-root-requires c = let depth = (width_is c.args.params.now c.requires).depth in omega arith
