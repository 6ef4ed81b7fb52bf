use Rattle.std.proofs.lemmas.Result.{err_from_is_err_and}
use Rattle.circom_gold.proofs.program.run.Goals as goal

pub returns-in-Some-clause-does : goal.returns-in-Some-clause-does
returns-in-Some-clause-does g c = rw c.in-Some.is at c.in_ok-status.ensures.does

pub returns-in-None-clause-does : goal.returns-in-None-clause-does
returns-in-None-clause-does g c =
    let u = c.in_ok-status.ensures.untouched c.in-None.is in
    rw (u.0, u.1) at c.run_circuit.ensures.does

pub returns-in_err-status-clause-does : goal.returns-in_err-status-clause-does
returns-in_err-status-clause-does g c =
    let p = err_from_is_err_and c.from_residual.result c.from_residual.ensures.1 in
    rw p.1 c.in_err-status.ensures.does
