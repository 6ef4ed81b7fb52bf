use Rattle.std.proofs.Common.{◌≡◌, ◌*◌, ◌/◌, map, ap, ◌∙◌, arith}
use Rattle.std.specs.List.{range_with_len}
use Rattle.rayon.proofs.ListFacts.{IfOk-then}
use Rattle.lig_prover.specs.Matrix.{product_value}
use Rattle.lig_prover.proofs.Placing.{eighth}
use Rattle.lig_prover.proofs.polynomials.product_values.Goals as goal

pub returns : goal.returns
returns g c =
    let p = c.args.params.now in
    let value = λ (j : _).
    product_value p c.args.challenges.now c.args.codewords.now c.args.t (2 * j) in
    let eight = eighth p c.requires.params in
    let whole : 32 * (p.l / 8) ≡ 4 * p.l = omega arith in
    IfOk-then c.in_blocks.result _ _ c.in_blocks.ensures (λ v made.
    made (p.l / 8) value (λ b xs low is. is) ∙ ap (λ n. map value (range_with_len 0 n)) whole)
