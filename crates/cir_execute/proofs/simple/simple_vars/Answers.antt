use Rattle.cir_assign.proofs.Stepping.{leads_exit, leads_next}
use Rattle.cir_execute.proofs.Going.{counted_leads}
use Rattle.cir_execute.proofs.simple.simple_vars.Goals as goal

pub returns-in_err-variables : goal.returns-in_err-variables
returns-in_err-variables g c = λ m qs.
    leads_exit qs c.args.world.now c.variables.new.frame c.variables.new.world _ _ _ _
    c.from_residual.ensures.1
    (rw c.as_slice.ensures at (c.in_err-variables.ensures m qs))

pub returns : goal.returns
returns g c = λ m qs.
    leads_next qs c.args.world.now c.variables.new.world c.variables.new.frame
    c.variables.new.frame c.counted.new.world _ _ _
    (rw c.as_slice.ensures at (c.in_ok-variables.ensures m qs))
    (λ es. counted_leads es c.variables.new.world c.counted.new.world c.variables.new.frame _ _
    (c.counted.ensures.value c.variables.new.frame es) c.counted.ensures.keeps)
