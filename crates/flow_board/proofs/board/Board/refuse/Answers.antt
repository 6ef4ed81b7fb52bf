use Rattle.flow_board.proofs.Calls.{sits, refuse_asks}
use Rattle.flow_board.proofs.board.Board.refuse.Goals as goal

pub fetch_min-least-requires : goal.fetch_min-least-requires
fetch_min-least-requires g c = refuse_asks
    (sits c.self.invariant c.seat.view_is c.self.view_is c.requires.own c.seat.invariant) _
    c.from.result c.in-Some.held c.in-Some.is c.requires.none c.from.ensures
