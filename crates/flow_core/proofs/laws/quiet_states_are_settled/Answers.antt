use Rattle.flow_core.proofs.Rests.{quiet_settles}
use Rattle.flow_core.proofs.laws.quiet_states_are_settled.Goals as goal

pub returns : goal.returns
returns c = λ n s ok h q. quiet_settles n ok s h q
