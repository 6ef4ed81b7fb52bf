use Rattle.std.proofs.Common.{arith, ◌+◌}
use Rattle.simplify_tests.proofs.chains.bits.Goals as goal

pub loop-x-preserved : goal.loop-x-preserved
loop-x-preserved c =
    let n = c.args.last + 1 in
    c.in_ok-push.ensures n (c.in_ok-bit.ensures n (omega arith) (omega arith)) c.loop-x.invariant
