use Rattle.std.proofs.Common.{◌≡◌, length}
use Rattle.flow_samples.specs.Links.{AreLinks}
use Rattle.flow_samples.proofs.links.steps_of.Given as goal

abbrev pub invariant-loop-at : goal.invariant-loop-at
invariant-loop-at l = record {
  each : length l.steps.items ≡ l.at;
  links : AreLinks l.steps.items;
}
