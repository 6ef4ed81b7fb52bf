use Rattle.std.proofs.Common.{Ok, ap}
use Rattle.cir_meaning.specs.Tried.{next}
use Rattle.cir_assign.proofs.Stepping.{leads_exit, lists_kept}
use Rattle.cir_execute.proofs.Scanning.{kept_constraints}
use Rattle.cir_execute.proofs.simple.dropped.Goals as goal

pub returns-in_err-_value : goal.returns-in_err-_value
returns-in_err-_value g c = λ m qs shaded.
    leads_exit qs c.args.world.now c.args.frame.now c.datum.new.world _ _ _ _
    c.from_residual.ensures.1
    (rw shaded at (c.in_err-_value.ensures.value m qs))

pub returns : goal.returns
returns g c = λ m qs shaded. (
  qs,
  ap (λ z. next z (λ (d, s1). Ok s1)) (rw shaded at (c.in_ok-_value.ensures.value m qs)),
  lists_kept qs c.args.world.now c.datum.new.world
      (kept_constraints c.datum.new.world c.args.world.now (c.in_ok-_value.ensures.keeps m)),
)
