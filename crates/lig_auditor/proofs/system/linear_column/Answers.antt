use Rattle.std.proofs.Common.{◌≡◌, length}
use Rattle.gold_ntt.specs.Polynomial.{eval_at}
use Rattle.lig_proof.specs.Sent.{polynomials_of}
use Rattle.lig_proof.specs.Audit.{system_value}
use Rattle.lig_auditor.specs.Opened.{column_of, point_of}
use Rattle.lig_auditor.proofs.Matching.{in_both}
use Rattle.lig_auditor.proofs.system.linear_column.Goals as goal

pub returns : goal.returns
returns g c = λ system are.
    let o = c.args.opening.now in
    let p = o.params.now in
    in_both (length o.columns.now)
    (λ t q. eval_at ((polynomials_of p o.polys.now).linear t)
    (point_of o q) ≡ system_value p (system t) t (point_of o q) (column_of o q))
    c.in_ok-first.first c.in_ok-second.second c.both.result (c.in_ok-first.ensures system are)
    (c.in_ok-second.ensures system are) c.both.ensures
