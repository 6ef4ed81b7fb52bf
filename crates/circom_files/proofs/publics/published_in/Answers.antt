use Rattle.std.proofs.Common.{ap, ◌∙◌}
use Rattle.std.proofs.lemmas.Result.{err_from_is_err_and}
use Rattle.circom_files.specs.Proving.{published_values}
use Rattle.circom_files.proofs.Reading.{public_found, public_unread}
use Rattle.circom_files.proofs.publics.published_in.Goals as goal

pub returns-in_err-witness-clause-step : goal.returns-in_err-witness-clause-step
returns-in_err-witness-clause-step g c =
    let p = err_from_is_err_and c.from_residual.result c.from_residual.ensures.1 in
    rw (p.1, p.2)
    (public_unread _ c.args.r1cs.now c.args.wtns.now _ c.in_err-witness.field-0.0
    c.in_err-witness.ensures.step)

pub returns-clause-step : goal.returns-clause-step
returns-clause-step g c =
    public_found _ c.args.r1cs.now c.args.wtns.now c.in_ok-witness.witness c.in_ok-found.found
    c.in_ok-witness.ensures.step
    (c.in_ok-found.ensures ∙ ap (published_values c.in_ok-witness.witness.file) c.as_slice.ensures)
