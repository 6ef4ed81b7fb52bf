use Rattle.cir_assign.proofs.Stepping.{leads_exit, leads_next}
use Rattle.cir_execute.proofs.Going.{counted_led, counted_leads}
use Rattle.cir_execute.proofs.statement.begin.Goals as goal

pub returns-in_err-counted : goal.returns-in_err-counted
returns-in_err-counted g c = λ m qs.
    let f = c.args.frame.now in
    leads_exit qs c.args.world.now f c.counted.new.world c.from_residual.result _ _ _
    c.from_residual.ensures.1 (c.in_err-counted.ensures.value f qs)

pub returns-in_err-first_statement : goal.returns-in_err-first_statement
returns-in_err-first_statement g c = λ m qs.
    let f = c.args.frame.now in
    let w0 = c.args.world.now in
    let w1 = c.counted.new.world in
    let w2 = c.first_statement.new.world in
    let f2 = c.first_statement.new.frame in
    let r = c.from_residual-in_err-first_statement.result in
    leads_next qs w0 w1 f f2 w2 r _ _
    (counted_led qs w0 w1 f _ (c.in_ok-counted.ensures.value f qs) c.in_ok-counted.ensures.keeps)
    (λ es. leads_exit es w1 f2 w2 r _ _ _ c.from_residual-in_err-first_statement.ensures.1
    (c.in_err-first_statement.ensures m es))

pub returns : goal.returns
returns g c = λ m qs.
    let f = c.args.frame.now in
    let w0 = c.args.world.now in
    let w1 = c.counted.new.world in
    let w2 = c.first_statement.new.world in
    let w3 = c.counted-2.new.world in
    let f2 = c.first_statement.new.frame in
    let r = c.counted-2.result in
    leads_next qs w0 w1 f f2 w3 r _ _
    (counted_led qs w0 w1 f _ (c.in_ok-counted.ensures.value f qs) c.in_ok-counted.ensures.keeps)
    (λ es. leads_next es w1 w2 f2 f2 w3 r _ _ (c.in_ok-first_statement.ensures m es)
    (λ fs. counted_leads fs w2 w3 f2 r _ (c.counted-2.ensures.value f2 fs)
    c.counted-2.ensures.keeps))
