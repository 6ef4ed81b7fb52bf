use Rattle.lig_prover.proofs.Adding.{excess}
use Rattle.lig_prover.proofs.polynomials.excess.Goals as goal

pub returns : goal.returns
returns c =
    excess c.args.number c.args.x c.args.y c.args.z c.mul.result c.sub.result c.mul-2.result
    c.mul.ensures c.sub.ensures c.mul-2.ensures
