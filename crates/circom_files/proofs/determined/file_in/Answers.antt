use Rattle.std.proofs.lemmas.Result.{err_from_is_err_and}
use Rattle.circom_files.proofs.Reading.{file_decoded, file_unread}
use Rattle.circom_files.proofs.determined.file_in.Goals as goal

pub returns-in_err-bytes-clause-step : goal.returns-in_err-bytes-clause-step
returns-in_err-bytes-clause-step g c =
    let p = err_from_is_err_and c.from_residual.result c.from_residual.ensures.1 in
    rw (p.1, p.2)
    (file_unread _ c.args.name.now _ c.in_err-bytes.field-0.0 c.in_err-bytes.ensures.step)

pub returns-clause-step : goal.returns-clause-step
returns-clause-step g c =
    file_decoded _ c.args.name.now _ c.in_ok-bytes.bytes.items c.in_ok-bytes.ensures.step
    c.as_slice.result.now c.as_slice.ensures.value c.r1cs_from.result c.r1cs_from.ensures.step
