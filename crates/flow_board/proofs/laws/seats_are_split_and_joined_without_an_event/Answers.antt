use Rattle.flow_board.proofs.Sharing.{seat_steps}
use Rattle.flow_board.proofs.laws.seats_are_split_and_joined_without_an_event.Goals as goal

pub returns : goal.returns
returns c = λ f t r id v at live. seat_steps f t r id v at live
