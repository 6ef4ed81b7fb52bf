use Rattle.std.proofs.lemmas.Result.{err_from_is_err_and}
use Rattle.circom_files.proofs.Certified.{claim_determined}
use Rattle.circom_files.proofs.Offering.{found_to, unread_to}
use Rattle.circom_files.specs.Determining.{IsConfirmed, claim_of}
use Rattle.circom_files.proofs.determined.verdict_in.Goals as goal

pub returns-in_err-claim-clause-step : goal.returns-in_err-claim-clause-step
returns-in_err-claim-clause-step g c =
    let p = err_from_is_err_and c.from_residual.result c.from_residual.ensures.1 in
    rw (p.1, p.2)
    (unread_to IsConfirmed (λ files. claim_of files c.args.r1cs.now c.args.certificate.now) _ _
    c.in_err-claim.field-0.0 c.in_err-claim.ensures.step)

pub returns-clause-step : goal.returns-clause-step
returns-clause-step g c =
    found_to IsConfirmed (λ files. claim_of files c.args.r1cs.now c.args.certificate.now) _
    c.in_ok-claim.claim c.in_ok-verdict.verdict c.in_ok-claim.ensures.step
    c.in_ok-verdict.ensures.confirmed

pub returns-clause-determined : goal.returns-clause-determined
returns-clause-determined g c = λ is files may.
    claim_determined files c.args.r1cs.now c.args.certificate.now c.in_ok-claim.claim
    (c.in_ok-claim.ensures.step files may) (c.in_ok-verdict.ensures.determined is)
