use Rattle.std.proofs.Common.{inr}
use Rattle.flow_samples.proofs.links.with_spin.Goals as goal

pub step-requires-clause-sample : goal.step-requires-clause-sample
step-requires-clause-sample c = inr c.in_ok-code.ensures
