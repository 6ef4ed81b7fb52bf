use Rattle.cir_assign.proofs.Stepping.{leads_exit, leads_next}
use Rattle.cir_execute.proofs.Going.{counted_leads}
use Rattle.cir_execute.proofs.simple.execute_counted.Goals as goal

pub returns-in_err-execute : goal.returns-in_err-execute
returns-in_err-execute g c = λ m qs.
    leads_exit qs c.args.world.now c.execute.new.frame c.execute.new.world _ _ _ _
    c.from_residual.ensures.1 (c.in_err-execute.ensures m qs)

pub returns : goal.returns
returns g c = λ m qs.
    leads_next qs c.args.world.now c.execute.new.world c.execute.new.frame
    c.execute.new.frame c.counted.new.world _ _ _ (c.in_ok-execute.ensures m qs)
    (λ es. counted_leads es c.execute.new.world c.counted.new.world c.execute.new.frame _ _
    (c.counted.ensures.value c.execute.new.frame es) c.counted.ensures.keeps)
