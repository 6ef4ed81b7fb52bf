use Rattle.flow_board.proofs.Calls.{sits, look_asks}
use Rattle.flow_board.proofs.board.Board.least.Goals as goal

pub load-found-requires : goal.load-found-requires
load-found-requires g c = look_asks
    (sits c.self.invariant c.seat.view_is c.self.view_is c.requires.own c.seat.invariant) _
