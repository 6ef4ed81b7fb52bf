use Rattle.cir_arrays.proofs.Exits.{exits}
use Rattle.cir_execute.proofs.Going.{flows_goes, flows_refused}
use Rattle.cir_execute.proofs.statement.ended.Goals as goal

pub returns-in_err-step : goal.returns-in_err-step
returns-in_err-step c = λ qs old new f m h.
    flows_refused qs old new f _ _ _ c.from_residual.ensures.1
    (exits _ m _ (rw c.in_err-step.was at h))

pub returns : goal.returns
returns c = λ qs old new f m h. flows_goes qs old new f m (rw c.in_ok-step.was at h)
