use Rattle.std.proofs.lemmas.Result.{err_from_is_err_and}
use Rattle.circom_words.specs.Words.{meant_proving}
use Rattle.circom_files.proofs.Offering.{found_to, unread_to}
use Rattle.circom_files.specs.Proving.{IsProved, witness_of}
use Rattle.circom_files.proofs.prove.outcome_in.Goals as goal

pub returns-in_err-witness-clause-step : goal.returns-in_err-witness-clause-step
returns-in_err-witness-clause-step g c =
    let p = err_from_is_err_and c.from_residual.result c.from_residual.ensures.1 in
    rw (p.1, p.2)
    (unread_to (IsProved (meant_proving c.args.options))
    (λ files. witness_of files c.args.r1cs.now c.args.wtns.now) _ _ c.in_err-witness.field-0.0
    c.in_err-witness.ensures.step)

pub returns-clause-step : goal.returns-clause-step
returns-clause-step g c =
    found_to (IsProved (meant_proving c.args.options))
    (λ files. witness_of files c.args.r1cs.now c.args.wtns.now) _ c.in_ok-witness.witness
    c.in_ok-outcome.outcome c.in_ok-witness.ensures.step c.in_ok-outcome.ensures.proved

pub returns-clause-accepted : goal.returns-clause-accepted
returns-clause-accepted g c = λ proof is files may.
    record {
      witness = c.in_ok-witness.witness;
      read = c.in_ok-witness.ensures.step files may;
      accepted = c.in_ok-outcome.ensures.accepted proof is;
    }
