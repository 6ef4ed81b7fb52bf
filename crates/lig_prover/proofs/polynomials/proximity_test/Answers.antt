use Rattle.std.proofs.Common.{◌≡◌, ◌*◌, ◌/◌, map, ap, ◌∙◌, arith}
use Rattle.std.specs.List.{range_with_len}
use Rattle.rayon.proofs.ListFacts.{IfOk-then}
use Rattle.lig_prover.specs.Matrix.{proximity_value}
use Rattle.lig_prover.proofs.Placing.{eighth}
use Rattle.lig_prover.proofs.polynomials.proximity_test.Goals as goal

pub returns : goal.returns
returns g c =
    let p = c.args.params.now in
    let value = λ (j : _).
    proximity_value p c.args.challenges.now c.args.polynomials.now c.args.t j in
    let eight = eighth p c.requires.params in
    let whole : 16 * (p.l / 8) ≡ 2 * p.l = omega arith in
    IfOk-then c.in_blocks.result _ _ c.in_blocks.ensures (λ v made.
    made (p.l / 8) value (λ b xs low is. is) ∙ ap (λ n. map value (range_with_len 0 n)) whole)
