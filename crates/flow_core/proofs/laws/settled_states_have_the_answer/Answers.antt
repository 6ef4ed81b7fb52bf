use Rattle.flow_core.proofs.Rests.{settled_answers}
use Rattle.flow_core.proofs.laws.settled_states_have_the_answer.Goals as goal

pub returns : goal.returns
returns c = λ f s ok flow h settled. settled_answers f ok flow s h settled
