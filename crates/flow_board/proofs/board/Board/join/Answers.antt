use Rattle.flow_board.proofs.Calls.{sits, join_asks}
use Rattle.flow_board.proofs.board.Board.join.Goals as goal

pub join_seat-requires : goal.join_seat-requires
join_seat-requires g c = join_asks
    (sits c.self.invariant c.seat.view_is c.self.view_is c.requires.own c.seat.invariant) _
    c.other.inside.seat.table_id c.other.inside.seat.id c.other.inside.seat.me
    c.other.inside.held c.args.other c.other.view_is c.other.invariant c.requires.other_own
    c.requires.free c.requires.other_free
