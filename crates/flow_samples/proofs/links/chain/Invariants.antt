use Rattle.std.proofs.Common.{◌≡◌, length}
use Rattle.flow_samples.proofs.links.chain.Given as goal

abbrev pub invariant-loop-from : goal.invariant-loop-from
invariant-loop-from l = length l.links.items ≡ l.from
