use Rattle.flow_board.proofs.Begins.{opens_so}
use Rattle.flow_board.proofs.laws.a_board_begins_in_the_opening_state.Goals as goal

pub returns : goal.returns
returns c = λ f ws r. opens_so f ws r
