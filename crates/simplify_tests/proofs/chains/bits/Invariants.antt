use Rattle.std.proofs.Common.{◌+◌}
use Rattle.simplify_samples.specs.Lists.{IsListed}
use Rattle.simplify_tests.proofs.chains.bits.Given as goal

abbrev pub invariant-loop-x : goal.invariant-loop-x
invariant-loop-x l = IsListed (l.last + 1) l.list.items
