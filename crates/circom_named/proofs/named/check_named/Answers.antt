use Rattle.std.proofs.lemmas.Result.{err_from_is_err_and}
use Rattle.out_io.specs.Faults.{Rose}
use Rattle.circom_named.proofs.Describing.{named_found, named_unread}
use Rattle.circom_named.proofs.named.check_named.Goals as goal

pub returns-in_err-described-clause-step : goal.returns-in_err-described-clause-step
returns-in_err-described-clause-step g c =
    let p = err_from_is_err_and c.from_residual.result c.from_residual.ensures.1 in
    rw (p.1, p.2)
    (named_unread _ c.args.r1cs.now c.args.wtns.now c.args.names.now _
    c.in_err-described.field-0.0 c.in_err-described.ensures.step)

pub returns-clause-step : goal.returns-clause-step
returns-clause-step g c =
    named_found (g.S.Store.may_hold c.described_in.new.store) c.args.r1cs.now c.args.wtns.now
    c.args.names.now (Rose (g.S.Store.faults c.args.store.now)
    (g.S.Store.faults c.described_in.new.store))
    c.in_ok-described.described c.in_ok-found.found c.in_ok-described.ensures.step
    c.in_ok-found.ensures
