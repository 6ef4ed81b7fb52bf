use Rattle.flow_board.proofs.Who.{says_who}
use Rattle.flow_board.proofs.laws.the_rule_says_who_has_a_strand.Goals as goal

pub returns : goal.returns
returns c = λ f t r. says_who f t r
