use Rattle.std.proofs.Common.{arith}
use Rattle.simplify_samples.proofs.chains.sum.Goals as goal

pub loop-signal-preserved : goal.loop-signal-preserved
loop-signal-preserved c = c.in_ok-sum.ensures _ (omega arith) c.loop-signal.invariant
