use Rattle.flow_core.specs.Events.{opening}
use Rattle.flow_core.proofs.Keeps.{opens, keeps_all}
use Rattle.flow_core.proofs.laws.every_honest_run_keeps_the_invariant.Goals as goal

pub returns : goal.returns
returns c = λ f es ok flow honest. keeps_all f ok flow (opening f) (opens f ok flow) es honest
