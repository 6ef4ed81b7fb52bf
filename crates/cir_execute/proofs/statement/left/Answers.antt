use Rattle.cir_execute.proofs.Going.{leads_of}
use Rattle.cir_execute.proofs.statement.left.Goals as goal

pub returns : goal.returns
returns g c = λ m qs.
    let w0 = c.args.world.now in
    let w1 = c.undecided.new.world in
    let f1 = c.undecided.new.frame in
    c.ended.ensures qs w0 w1 f1 _ (leads_of qs w0 w1 f1 c.undecided.result _
    (c.undecided.ensures.state m qs) (c.undecided.ensures.constraints m))
