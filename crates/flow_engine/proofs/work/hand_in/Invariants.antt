use Rattle.std.proofs.Common.{◌≡◌, length, Some}
use Rattle.flow_core.specs.Events.{hold}
use Rattle.flow_board.specs.Seats.{place_of}
use Rattle.flow_engine.proofs.work.hand_in.Given as goal

abbrev pub invariant-loop-i : goal.invariant-loop-i
invariant-loop-i g l = record {
  own : place_of l.seat ≡ l.board;
  held : l.seat.view.holding ≡ Some (hold l.strand l.i 0);
  share : l.seat.view.share ≡ l.fn.seat.view.share;
}

abbrev pub invariant-loop-told : goal.invariant-loop-told
invariant-loop-told g l = record {
  own : place_of l.seat ≡ l.board;
  held : l.seat.view.holding ≡ Some (hold l.strand (length l.values) l.told);
  share : l.seat.view.share ≡ l.fn.seat.view.share;
}
