use Rattle.flow_board.proofs.Last.{least_refused}
use Rattle.flow_board.proofs.laws.closed_words_name_the_least_refused_strand.Goals as goal

pub returns : goal.returns
returns c = λ f done refused w h. least_refused f done refused w h
