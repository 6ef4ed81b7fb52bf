use Rattle.std.proofs.Common.{arith}
use Rattle.lig_proof.proofs.Interpolants.{width_is}
use Rattle.lig_auditor.proofs.paths.lead.Goals as goal

pub root_of_many-requires-clause-depth : goal.root_of_many-requires-clause-depth
root_of_many-requires-clause-depth c =
    let depth = (width_is c.args.params.now c.requires.params).depth in omega arith
