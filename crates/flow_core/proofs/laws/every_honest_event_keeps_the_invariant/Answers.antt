use Rattle.flow_core.proofs.Keeps.{keeps_kept}
use Rattle.flow_core.proofs.laws.every_honest_event_keeps_the_invariant.Goals as goal

pub returns : goal.returns
returns c = λ f s e ok flow h honest. keeps_kept f ok flow s h e honest
