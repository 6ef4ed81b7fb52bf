use Rattle.std.proofs.Common.{◌≡◌, All, List, map, subst, sym}
use Rattle.std.specs.List.{AllZip}
use Rattle.std.proofs.lemmas.Result.{IfOk-weaker}
use Rattle.wit_flow.specs.declared.flow.Outcome.{Outcome}
use Rattle.wit_run.specs.Batch.{IsRunFrom}
use Rattle.wit_run.specs.Task.{EndsBy, HasPlace, code_in}
use Rattle.wit_run.proofs.Batches.{all_end, each_counted, fit, have_places}
use Rattle.wit_run.proofs.running.CutCircuit.run_batch.Goals as goal

pub run_batch-requires-clause-each : goal.run_batch-requires-clause-each
run_batch-requires-clause-each g c κs lives =
    each_counted c.requires.tasks.0 (code_in c.args.self.now) c.args.starts.now c.requires.tasks.1

pub run_batch-requires-clause-small : goal.run_batch-requires-clause-small
run_batch-requires-clause-small g c κs lives =
    fit c.args.self.now.flow c.facts.ensures.plan _ c.requires.small

pub ends_of-requires : goal.ends_of-requires
ends_of-requires g c =
    let os = c.in_ok-outcomes.outcomes.items in
    subst (λ (os : List Outcome). All (HasPlace (code_in c.args.self.now)) os)
    (sym c.as_slice.ensures.value)
    (have_places c.requires.tasks.0 (code_in c.args.self.now) c.args.fuel c.args.starts.now os
    c.requires.tasks.1 c.in_ok-outcomes.ensures)

pub returns : goal.returns
returns g c = λ p.
    let code = code_in c.args.self.now in
    let os = c.in_ok-outcomes.outcomes.items in
    IfOk-weaker c.ends_of.result (λ es. AllZip (EndsBy code) os es.items)
    (λ es. AllZip (λ s e. IsRunFrom p code c.args.fuel s.items e) c.args.starts.now es.items)
    (λ es ends. all_end p code c.args.fuel c.args.starts.now os es.items c.in_ok-outcomes.ensures
    ends)
    (rw c.as_slice.ensures.value at c.ends_of.ensures)
