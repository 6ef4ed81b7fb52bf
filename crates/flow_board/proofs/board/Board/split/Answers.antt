use Rattle.flow_board.proofs.Calls.{sits, split_asks}
use Rattle.flow_board.proofs.board.Board.split.Goals as goal

pub split_seat-cut-requires : goal.split_seat-cut-requires
split_seat-cut-requires g c = split_asks
    (sits c.self.invariant c.seat.view_is c.self.view_is c.requires.own c.seat.invariant) _
    c.requires.free c.requires.many
