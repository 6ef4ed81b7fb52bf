use Rattle.std.proofs.Common.{◌≡◌, ◌∙◌, List, subst, subst₂, sym}
use Rattle.std.specs.List.{AllZip}
use Rattle.flow_engine.specs.Task.{Task, task, AreNumbered, IsOneThread}
use Rattle.flow_engine.proofs.Orders.{if_ok}
use Rattle.flow_batch.proofs.Lists.{outcomes_of, tasks_fit, tasks_of}
use Rattle.flow_batch.proofs.batch.run_batch.Goals as goal

pub run_each-requires-clause-items : goal.run_each-requires-clause-items
run_each-requires-clause-items g c κs within =
    let p = c.args.flow.now in let ss = c.args.starts.now in
    subst₂ AreNumbered (sym c.strands_of.ensures)
    (sym (c.as_slice.ensures.value ∙ c.in_ok-tasks.ensures))
    (tasks_fit p c.args.fuel ss c.requires.small)

pub returns : goal.returns
returns g c =
    let p = c.args.flow.now in let ss = c.args.starts.now in
    let tasks : c.as_slice.result.now ≡ tasks_of p c.args.fuel ss =
    c.as_slice.ensures.value ∙ c.in_ok-tasks.ensures in
    if_ok (λ os. AllZip IsOneThread c.as_slice.result.now os.items)
    (λ os. AllZip (λ s o. IsOneThread (task p s.items c.args.fuel) o) ss os.items)
    c.run_each.result
    (λ os h. outcomes_of p c.args.fuel ss os.items
    (subst (λ (ts : List Task). AllZip IsOneThread ts os.items) tasks h)) c.run_each.ensures
