use Rattle.std.proofs.Common.{ap, ◌∙◌}
use Rattle.std.proofs.lemmas.Result.{err_from_is_err_and}
use Rattle.circom_files.specs.Check.{verdict}
use Rattle.circom_files.proofs.Reading.{check_found, check_unread}
use Rattle.circom_files.proofs.check.check.Goals as goal

pub returns-in_err-witness-clause-step : goal.returns-in_err-witness-clause-step
returns-in_err-witness-clause-step g c =
    let p = err_from_is_err_and c.from_residual.result c.from_residual.ensures.1 in
    rw (p.1, p.2)
    (check_unread _ c.args.r1cs.now c.args.wtns.now _ c.in_err-witness.field-0.0
    c.in_err-witness.ensures.step)

pub returns-clause-step : goal.returns-clause-step
returns-clause-step g c =
    check_found _ c.args.r1cs.now c.args.wtns.now c.in_ok-witness.witness c.verdict.result
    c.in_ok-witness.ensures.step
    (c.verdict.ensures ∙ ap (verdict c.in_ok-witness.witness.file) c.as_slice.ensures)
