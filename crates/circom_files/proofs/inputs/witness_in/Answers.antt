use Rattle.std.proofs.Common.{ℕ, Vec}
use Rattle.std.specs.declared.alloc.Global.{Global}
use Rattle.std.proofs.lemmas.Result.{err_from_is_err_and}
use Rattle.circom_files.specs.Proving.{witness_of}
use Rattle.circom_files.specs.declared.outcome.Witness.{Witness}
use Rattle.circom_files.proofs.Reading.{none_given}
use Rattle.circom_files.proofs.inputs.witness_in.Goals as goal

pub returns-in_err-witness-clause-step : goal.returns-in_err-witness-clause-step
returns-in_err-witness-clause-step g c =
    let p = err_from_is_err_and c.from_residual.result c.from_residual.ensures.1 in
    rw (p.1, p.2)
    (none_given (λ (read : Witness × Vec ℕ Global). read.0) (λ (w : Witness). w)
    (g.S.Store.may_hold c.witness_with_text.new.store)
    (λ files. witness_of files c.args.r1cs.now c.args.wtns.now) _
    c.in_err-witness.field-0.0 c.in_err-witness.ensures.step)
