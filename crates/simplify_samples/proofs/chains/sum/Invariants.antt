use Rattle.std.proofs.Common.{◌+◌}
use Rattle.cir_lc.specs.Terms.{IsWithin}
use Rattle.simplify_samples.proofs.chains.sum.Given as goal

abbrev pub invariant-loop-signal : goal.invariant-loop-signal
invariant-loop-signal l = IsWithin (l.last + 1) l.sum
