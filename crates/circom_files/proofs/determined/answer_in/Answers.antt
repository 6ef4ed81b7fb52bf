use Rattle.std.proofs.lemmas.Result.{err_from_is_err_and}
use Rattle.circom_files.proofs.Offering.{found_to, unread_to}
use Rattle.circom_files.specs.Determining.{IsSearched}
use Rattle.circom_files.specs.Files.{r1cs_in}
use Rattle.circom_files.proofs.determined.answer_in.Goals as goal

pub returns-in_err-file-clause-step : goal.returns-in_err-file-clause-step
returns-in_err-file-clause-step g c =
    let p = err_from_is_err_and c.from_residual.result c.from_residual.ensures.1 in
    rw (p.1, p.2)
    (unread_to IsSearched (λ files. r1cs_in files c.args.r1cs.now) _ _ c.in_err-file.field-0.0
    c.in_err-file.ensures.step)

pub returns-clause-step : goal.returns-clause-step
returns-clause-step g c =
    found_to IsSearched (λ files. r1cs_in files c.args.r1cs.now) _ c.in_ok-file.file
    c.in_ok-answer.answer c.in_ok-file.ensures.step c.in_ok-answer.ensures
