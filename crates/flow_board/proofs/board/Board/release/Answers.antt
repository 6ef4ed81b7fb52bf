use Rattle.std.proofs.Common.{ℕ, List, get_or, ap, arith}
use Rattle.flow_board.proofs.Calls.{sits, release_asks, release_small}
use Rattle.flow_board.proofs.board.Board.release.Goals as goal

pub fetch_sub-found-requires : goal.fetch_sub-found-requires
fetch_sub-found-requires g c = release_asks
    (sits c.self.invariant c.seat.view_is c.self.view_is c.requires.own c.seat.invariant) _
    (get_or c.succs_of.result.now c.in-Some.held.released 0) c.in-Some.held c.in-Some.is
    c.requires.next (ap (λ (ws : List ℕ). get_or ws c.in-Some.held.released 0)
    c.succs_of.ensures)

pub overflow_add-seat : goal.overflow_add-seat
overflow_add-seat g c = let small = release_small
    (sits c.self.invariant c.seat.view_is c.self.view_is c.requires.own c.seat.invariant)
    c.in-Some.held c.in-Some.is c.requires.next in omega arith
