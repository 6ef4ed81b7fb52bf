use Rattle.flow_board.proofs.Last.{done_below}
use Rattle.flow_board.proofs.laws.a_taken_strand_below_the_least_is_done.Goals as goal

pub returns : goal.returns
returns c = λ f done refused w k h near below word. done_below f done refused w h k near below word
