use Rattle.flow_board.proofs.Last.{only_answers}
use Rattle.flow_board.proofs.laws.closed_words_have_only_answers.Goals as goal

pub returns : goal.returns
returns c = λ f done refused w h. only_answers f done refused w h
