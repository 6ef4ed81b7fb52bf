use Rattle.std.proofs.Common.{arith}
use Rattle.lig_proof.proofs.SharedWhole.{found2_of, only2_of}
use Rattle.lig_proof.proofs.shared_read.read_proof2.Goals as goal

pub returns-clause-found : goal.returns-clause-found
returns-clause-found c =
    found2_of c.proof2_in.result c.args.params.now c.args.relation.now.bytes.now c.args.publics.now
    c.args.bytes.now (λ i. omega (arith, c.type_inv.bytes i)) c.proof2_in.ensures

pub returns-clause-only : goal.returns-clause-only
returns-clause-only c = λ proof fits is.
    only2_of c.proof2_in.result c.args.params.now c.args.relation.now.bytes.now c.args.publics.now
    c.args.bytes.now proof c.proof2_in.ensures fits is
