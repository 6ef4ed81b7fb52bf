use Rattle.std.proofs.Common.{◌≡◌, ◌+◌, ◌++◌, ◌∷◌, [], None, length}
use Rattle.std.specs.Prelude.{All}
use Rattle.flow_board.specs.Seats.{place_of}
use Rattle.flow_engine.specs.Lent.{IsHandBack}
use Rattle.flow_engine.proofs.lend.take_back.Given as goal

abbrev pub invariant-loop-hand : goal.invariant-loop-hand
invariant-loop-hand l = record {
  own : place_of l.seat ≡ l.board;
  free : l.seat.view.holding ≡ None;
  share : l.seat.view.share ≡ l.fn.seat.view.share + length l.rest.items;
  each : length l.rest.items + length l.hands.items ≡ length l.fn.hands.items;
  hands : All (λ h. IsHandBack (l.boards ++ l.board ∷ []) h.items) l.hands.items;
  rest : All (λ h. IsHandBack l.boards h.items) l.rest.items;
}

abbrev pub decreases-loop-hand : goal.decreases-loop-hand
decreases-loop-hand l = length l.hands.items
