use Rattle.std.proofs.Common.{◌≡◌, Some}
use Rattle.flow_core.specs.Events.{hold}
use Rattle.flow_board.specs.Seats.{place_of}
use Rattle.engine_tests.proofs.board.hand_over.Given as goal

abbrev pub invariant-loop-told : goal.invariant-loop-told
invariant-loop-told g l = record {
  own : place_of l.seat ≡ l.board;
  held : l.seat.view.holding ≡ Some (hold l.strand 1 l.told);
  share : l.seat.view.share ≡ l.fn.seat.view.share;
}
