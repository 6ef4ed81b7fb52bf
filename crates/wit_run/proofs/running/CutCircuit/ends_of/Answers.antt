use Rattle.std.proofs.Common.{List, arith, subst, sym, take, ◌+◌}
use Rattle.std.specs.List.{AllZip}
use Rattle.flow_engine.proofs.Zips.{zip_more}
use Rattle.wit_run.specs.Task.{EndsBy, code_in}
use Rattle.wit_run.specs.declared.ending.RunEnd.{RunEnd}
use Rattle.wit_run.proofs.running.CutCircuit.ends_of.Goals as goal

pub loop-outcome-preserved : goal.loop-outcome-preserved
loop-outcome-preserved c =
    let By = EndsBy (code_in c.args.self.now) in
    let os = c.args.outcomes.now in
    let i = c.loop-outcome.outcome-index in
    let near = c.loop-outcome-test.true in
    subst (λ (es : List RunEnd). AllZip By (take (i + 1) os) es) (sym c.in_ok-push.ensures.items)
    (zip_more By os c.loop-outcome.ends.items c.outcome-item.result c.in_ok-end.end i (i + 1)
    (omega arith) c.loop-outcome.invariant (omega arith) c.outcome-item.is c.in_ok-end.ensures)
