use Rattle.std.proofs.Common.{ℕ, List, get_or, sym, ap, subst, arith}
use Rattle.flow_board.specs.Plays.{CanPublish}
use Rattle.flow_board.proofs.Calls.{sits, publish_asks, publish_small}
use Rattle.flow_board.proofs.board.Board.publish.Goals as goal

pub store-requires : goal.store-requires
store-requires g c = let N : ℕ
    → Type 0 = λ x. CanPublish c.args.self.now.flow c.args.seat.now.view.holding x in
    publish_asks
    (sits c.self.invariant c.seat.view_is c.self.view_is c.requires.own c.seat.invariant) _
    (get_or c.writes_of.result.now c.in-Some.held.published 0) c.get.result c.in-Some.held
    c.in-Some.is (subst N (sym c.get.ensures.value) c.requires.next) c.get.ensures.below
    (ap (λ (ws : List ℕ). get_or ws c.in-Some.held.published 0) c.writes_of.ensures)

pub overflow_add-seat : goal.overflow_add-seat
overflow_add-seat g c = let small = publish_small
    (sits c.self.invariant c.seat.view_is c.self.view_is c.requires.own c.seat.invariant)
    c.args.value c.in-Some.held c.in-Some.is c.requires.next in omega arith
