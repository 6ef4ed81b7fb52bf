use Rattle.std.proofs.lemmas.Result.{err_from_is_err_and}
use Rattle.circom_files.proofs.Offering.{found_to, unread_to}
use Rattle.circom_files.specs.Proving.{IsAudited, offer_of}
use Rattle.circom_files.proofs.audit.verdict_in.Goals as goal

pub returns-in_err-offer-clause-step : goal.returns-in_err-offer-clause-step
returns-in_err-offer-clause-step g c =
    let p = err_from_is_err_and c.from_residual.result c.from_residual.ensures.1 in
    rw (p.1, p.2)
    (unread_to IsAudited
    (λ files. offer_of files c.args.r1cs.now c.args.publics.now c.args.proof.now) _ _
    c.in_err-offer.field-0.0 c.in_err-offer.ensures.step)

pub returns-clause-step : goal.returns-clause-step
returns-clause-step g c =
    found_to IsAudited
    (λ files. offer_of files c.args.r1cs.now c.args.publics.now c.args.proof.now) _
    c.in_ok-offer.offer c.in_ok-verdict.verdict c.in_ok-offer.ensures.step c.in_ok-verdict.ensures
