use Rattle.std.proofs.Common.{length}
use Rattle.std.proofs.lemmas.Result.{err_from_is_err_and}
use Rattle.wit_code.proofs.Runs as runs
use Rattle.wit_code.proofs.machine.run_to_end.Goals as goal

pub step-requires-clause-answers : goal.step-requires-clause-answers
step-requires-clause-answers c =
    runs.answers_fit c.args.procs.now c.args.code.now c.loop-run.run.frames.open_calls
    c.loop-run.invariant.good.open_calls

pub step-requires-clause-names : goal.step-requires-clause-names
step-requires-clause-names c =
    runs.next_fits c.args.procs.now c.args.code.now (length c.args.reads.now) c.loop-run.body.now
    c.loop-run.run c.requires c.loop-run.invariant.good c.loop-run.invariant.body

pub returns-in_err-step : goal.returns-in_err-step
returns-in_err-step c =
    let p = err_from_is_err_and c.from_residual-in_err-step.result
    c.from_residual-in_err-step.ensures.1 in
    rw (p.1, p.2)
    (runs.stops c.args.procs.now c.args.code.now c.args.reads.now c.args.fuel
    c.loop-run.body.now c.loop-run.run c.step.new.self c.requires c.loop-run.invariant.good
    c.loop-run.invariant.body c.loop-run.invariant.reached c.in_err-step.field-0.0
    c.in_err-step.ensures)

pub loop-run-smaller-in-Stays : goal.loop-run-smaller-in-Stays
loop-run-smaller-in-Stays c =
    (runs.stays c.args.procs.now c.args.code.now c.args.reads.now c.args.fuel c.loop-run.body.now
    c.loop-run.run c.step.new.self c.requires c.loop-run.invariant.good
    c.loop-run.invariant.body c.loop-run.invariant.reached _ c.in-Stays.is
    c.in_ok-step.ensures).0.less

pub loop-run-preserved-in-Stays : goal.loop-run-preserved-in-Stays
loop-run-preserved-in-Stays c =
    let k = runs.stays c.args.procs.now c.args.code.now c.args.reads.now c.args.fuel
    c.loop-run.body.now c.loop-run.run c.step.new.self c.requires c.loop-run.invariant.good
    c.loop-run.invariant.body c.loop-run.invariant.reached _ c.in-Stays.is
    c.in_ok-step.ensures in
    record { good = k.0.good; body = k.1; reached = k.0.reached }

pub body_of-body-requires : goal.body_of-body-requires
body_of-body-requires c =
    (runs.moves c.args.procs.now c.args.code.now c.args.reads.now c.args.fuel c.loop-run.body.now
    c.loop-run.run c.step.new.self c.requires c.loop-run.invariant.good
    c.loop-run.invariant.body c.loop-run.invariant.reached _ c.in-Moves.is
    c.in_ok-step.ensures).good.frame.there

pub loop-run-smaller : goal.loop-run-smaller
loop-run-smaller c =
    (runs.moves c.args.procs.now c.args.code.now c.args.reads.now c.args.fuel c.loop-run.body.now
    c.loop-run.run c.step.new.self c.requires c.loop-run.invariant.good
    c.loop-run.invariant.body c.loop-run.invariant.reached _ c.in-Moves.is
    c.in_ok-step.ensures).less

pub loop-run-preserved : goal.loop-run-preserved
loop-run-preserved c =
    let k = runs.moves c.args.procs.now c.args.code.now c.args.reads.now c.args.fuel
    c.loop-run.body.now c.loop-run.run c.step.new.self c.requires c.loop-run.invariant.good
    c.loop-run.invariant.body c.loop-run.invariant.reached _ c.in-Moves.is
    c.in_ok-step.ensures in
    record { good = k.good; body = c.body_of-body.ensures; reached = k.reached }

pub returns-in-Ends : goal.returns-in-Ends
returns-in-Ends c =
    runs.ends c.args.procs.now c.args.code.now c.args.reads.now c.args.fuel c.loop-run.body.now
    c.loop-run.run c.step.new.self c.requires c.loop-run.invariant.good
    c.loop-run.invariant.body c.loop-run.invariant.reached _ c.in-Ends.is c.in_ok-step.ensures
