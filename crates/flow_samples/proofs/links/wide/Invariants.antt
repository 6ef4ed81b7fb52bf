use Rattle.std.proofs.Common.{◌≡◌, length}
use Rattle.flow_samples.proofs.links.wide.Given as goal

abbrev pub invariant-loop-made : goal.invariant-loop-made
invariant-loop-made l = length l.links.items ≡ l.made
