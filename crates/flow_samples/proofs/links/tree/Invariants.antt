use Rattle.std.proofs.Common.{◌≡◌, length}
use Rattle.flow_samples.proofs.links.tree.Given as goal

abbrev pub invariant-loop-place : goal.invariant-loop-place
invariant-loop-place l = length l.links.items ≡ l.place
