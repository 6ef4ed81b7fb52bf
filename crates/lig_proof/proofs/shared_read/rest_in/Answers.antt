use Rattle.std.proofs.Common.{arith}
use Rattle.lig_proof.proofs.Interpolants.{width_is}
use Rattle.lig_proof.proofs.shared_read.rest_in.Goals as goal

pub shared-requires-clause-depth : goal.shared-requires-clause-depth
shared-requires-clause-depth c =
    let most = (width_is c.args.params.now c.requires.params).depth in omega arith
