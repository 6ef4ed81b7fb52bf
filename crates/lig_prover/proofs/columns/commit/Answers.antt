use Rattle.std.proofs.Common.{ℕ, ◌*◌, length, sym, ap, ◌∙◌}
use Rattle.std.proofs.lemmas.List.FromFn.{length-map-range_with_len}
use Rattle.rayon.proofs.ListFacts.{IfOk-then}
use Rattle.lig_merkle.specs.Merkle.{leaf_hash}
use Rattle.lig_prover.specs.Matrix.{column_in}
use Rattle.lig_prover.proofs.columns.commit.Goals as goal

pub make-requires : goal.make-requires
make-requires g c =
    let leaf = λ (i : ℕ). leaf_hash (column_in c.args.codewords.now i) in
    let count = 8 * c.args.params.now.l in
    let size = ap length (c.deref.ensures.value ∙ c.in_ok-leaves.ensures)
    ∙ length-map-range_with_len leaf 0 count in
    (c.args.params.now.depth, size ∙ sym c.requires.depth)

pub returns-clause-depth : goal.returns-clause-depth
returns-clause-depth g c =
    let leaf = λ (i : ℕ). leaf_hash (column_in c.args.codewords.now i) in
    let count = 8 * c.args.params.now.l in
    let size = ap length (c.deref.ensures.value ∙ c.in_ok-leaves.ensures)
    ∙ length-map-range_with_len leaf 0 count in
    IfOk-then c.make.result _ _ c.make.ensures.same_depth
    (λ t same. same c.args.params.now.depth (size ∙ sym c.requires.depth))
