use Rattle.std.proofs.Common.{List, ℕ, length, sym, ap, subst, ◌∙◌, arith}
use Rattle.std.proofs.lemmas.List.{length-append}
use Rattle.lig_layout.specs.Layout.{row_at}
use Rattle.lig_proof.specs.Encoding.{IsMaskedRow}
use Rattle.lig_proof.specs.Masks.{row_mask}
use Rattle.lig_proof.specs.Proving.{IsEncoded}
use Rattle.lig_prover.specs.Matrix.{encoded_by, test_masks}
use Rattle.lig_proof.proofs.Collected.{placed_length}
use Rattle.lig_prover.proofs.Encodings.{encoded_from, length-message}
use Rattle.lig_prover.proofs.rows.polynomials.Goals as goal

pub masked_rows-requires-clause-whole : goal.masked_rows-requires-clause-whole
masked_rows-requires-clause-whole g c κs within =
    ap length (c.deref.ensures.value ∙ c.in_ok-values.ensures)
    ∙ length-message c.args.params.now c.args.vectors.now c.requires.params c.requires.fit

pub returns-clause-encoded : goal.returns-clause-encoded
returns-clause-encoded g c =
    let p = c.args.params.now in
    let seed = c.args.seed.now in
    let Made : List (List ℕ) → Type 0 = λ xs. IsEncoded p c.args.vectors.now seed
    (encoded_by p xs) in
    subst Made (sym c.in_ok-put_test_masks.ensures)
    (encoded_from p c.args.vectors.now seed c.deref.result.now c.in_ok-all.all.items
    (c.deref.ensures.value ∙ c.in_ok-values.ensures) c.in_ok-all.ensures)

pub returns-clause-count : goal.returns-clause-count
returns-clause-count g c =
    let p = c.args.params.now in
    let seed = c.args.seed.now in
    let rows = placed_length (λ k coefs. IsMaskedRow p (row_at p c.deref.result.now k)
    (row_mask p seed k) coefs) 0 p.rows c.in_ok-all.all.items c.in_ok-all.ensures in
    let sum = ap length c.in_ok-put_test_masks.ensures in
    omega (arith, sum, rows, length-append c.in_ok-all.all.items (test_masks p seed))
