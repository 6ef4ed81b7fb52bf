use Rattle.flow_board.proofs.Calls.{sits, finish_asks}
use Rattle.flow_board.proofs.board.Board.finish.Goals as goal

pub load-least-requires : goal.load-least-requires
load-least-requires g c = finish_asks
    (sits c.self.invariant c.seat.view_is c.self.view_is c.requires.own c.seat.invariant) _
    c.requires.last
