use Rattle.std.proofs.Common.{◌+◌}
use Rattle.simplify_samples.specs.Lists.{IsListed}
use Rattle.simplify_samples.proofs.chains.sums.Given as goal

abbrev pub invariant-loop-signal : goal.invariant-loop-signal
invariant-loop-signal l = IsListed (l.signals + 1) l.sums.items
