use Rattle.std.specs.List.{range_with_len}
use Rattle.std.proofs.lemmas.Slice.Zip.{AllZip-map}
use Rattle.rayon.proofs.ListFacts.{IfOk-then}
use Rattle.lig_merkle.specs.Merkle.{leaf_hash}
use Rattle.lig_prover.specs.Matrix.{column_in}
use Rattle.lig_prover.proofs.columns.leaves.Goals as goal

pub returns : goal.returns
returns g c =
    IfOk-then c.each_place.result _ _ c.each_place.ensures (λ v h.
    AllZip-map (λ i. leaf_hash (column_in c.args.codewords.now i))
    (range_with_len 0 c.args.count) v.items h)
