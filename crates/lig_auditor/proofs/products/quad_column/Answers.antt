use Rattle.std.proofs.Common.{◌≡◌, length}
use Rattle.gold_ntt.specs.Polynomial.{eval_at}
use Rattle.lig_proof.specs.Sent.{polynomials_of}
use Rattle.lig_proof.specs.Audit.{product_value}
use Rattle.lig_auditor.specs.Opened.{column_of, point_of}
use Rattle.lig_auditor.proofs.Matching.{in_both}
use Rattle.lig_auditor.proofs.products.quad_column.Goals as goal

pub returns : goal.returns
returns g c =
    let o = c.args.opening.now in
    let p = o.params.now in
    in_both (length o.columns.now)
    (λ t q. eval_at ((polynomials_of p o.polys.now).product t)
    (point_of o q) ≡ product_value p o.challenges.now t (column_of o q))
    c.in_ok-first.first c.in_ok-second.second c.both.result c.in_ok-first.ensures
    c.in_ok-second.ensures c.both.ensures
