use Rattle.std.proofs.Common.{arith, ◌+◌}
use Rattle.simplify_samples.proofs.chains.sums.Goals as goal

pub loop-signal-preserved : goal.loop-signal-preserved
loop-signal-preserved c =
    let n = c.args.signals + 1 in
    let step = c.in_ok-step.ensures n (omega arith) (omega arith) in
    let link = c.in_ok-link.ensures n (omega arith) step in
    c.in_ok-push_linear.ensures n link c.loop-signal.invariant

pub returns : goal.returns
returns c =
    let n = c.args.signals + 1 in
    let end = c.in_ok-end.ensures n (omega arith) (omega arith) in
    c.in_ok-push_linear-2.ensures n end c.loop-signal.invariant
