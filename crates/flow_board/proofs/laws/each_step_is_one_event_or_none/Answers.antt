use Rattle.flow_board.proofs.Steps.{word_steps}
use Rattle.flow_board.proofs.laws.each_step_is_one_event_or_none.Goals as goal

pub returns : goal.returns
returns c = λ f slots id m live. word_steps f slots id m live
