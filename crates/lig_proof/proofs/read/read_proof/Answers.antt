use Rattle.std.proofs.Common.{arith}
use Rattle.lig_proof.proofs.Whole.{found_of, only_of}
use Rattle.lig_proof.proofs.read.read_proof.Goals as goal

pub returns-clause-found : goal.returns-clause-found
returns-clause-found c =
    found_of c.proof_in.result c.args.params.now c.args.bytes.now
    (λ i. omega (arith, c.type_inv.bytes i)) c.proof_in.ensures

pub returns-clause-only : goal.returns-clause-only
returns-clause-only c =
    λ proof fits is. only_of c.proof_in.result c.args.params.now c.args.bytes.now proof
    c.proof_in.ensures fits is
