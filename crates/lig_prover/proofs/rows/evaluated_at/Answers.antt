use Rattle.std.proofs.Common.{[]}
use Rattle.rayon.proofs.ListFacts.{IfOk-then}
use Rattle.lig_prover.specs.Transform.{values_at}
use Rattle.lig_proof.proofs.Collected.{mapped}
use Rattle.lig_prover.proofs.rows.evaluated_at.Goals as goal

pub returns : goal.returns
returns g c =
    IfOk-then c.each_place.result _ _ c.each_place.ensures
    (λ v h. mapped (values_at c.args.coset.now.log) c.args.polynomials.now [] v.items h)
