use Rattle.std.proofs.Common.{◌*◌, length, ap, ◌∙◌, arith}
use Rattle.std.proofs.lemmas.List.{take_all}
use Rattle.std.proofs.lemmas.List.FromFn.{length-map-range_with_len}
use Rattle.lig_proof.specs.Sent.{product_test}
use Rattle.lig_proof.proofs.Interpolants.{made_values}
use Rattle.lig_prover.specs.Matrix.{encoded_by, product_value}
use Rattle.lig_prover.proofs.Points.{product_are}
use Rattle.lig_prover.proofs.polynomials.product_test.Goals as goal

pub coefficients_of-requires-clause-each : goal.coefficients_of-requires-clause-each
coefficients_of-requires-clause-each g c =
    let p = c.args.params.now in
    ap length c.in_ok-values.ensures
    ∙ length-map-range_with_len (λ j. product_value p c.args.challenges.now c.args.codewords.now
    c.args.t (2 * j)) 0 (4 * p.l)

pub returns : goal.returns
returns g c = λ polynomials are.
    let p = c.args.params.now in
    let test = product_test p c.args.challenges.now (encoded_by p polynomials) c.args.t in
    let fits = made_values (4 * p.l) _ in
    c.coefficients_of.ensures test fits
    (product_are p polynomials c.args.codewords.now c.args.t c.requires.params are
    c.requires.repetition
    c.args.challenges.now c.in_ok-values.values.items c.in_ok-values.ensures)
    ∙ take_all (4 * p.l) test (let count = fits.count in omega arith)
