use Rattle.std.proofs.Common.{◌≡◌, ℕ, ◌<◌, length, get_or, Some}
use Rattle.flow_core.specs.Net.{reads_of}
use Rattle.flow_core.specs.Flow.{HasValue}
use Rattle.flow_core.specs.Events.{hold}
use Rattle.flow_board.specs.Seats.{place_of}
use Rattle.flow_engine.specs.Task.{answers_of}
use Rattle.flow_engine.proofs.work.gather.Given as goal

abbrev pub invariant-loop-i : goal.invariant-loop-i
invariant-loop-i l = record {
  own : place_of l.seat ≡ l.board;
  held : l.seat.view.holding ≡ Some (hold l.strand 0 0);
  share : l.seat.view.share ≡ l.fn.seat.view.share;
  each : length l.reads.items ≡ l.i;
  has : (j : ℕ) → j < l.i
      → HasValue (answers_of l.answers) (get_or (reads_of l.answers.plan.graph l.strand) j 0)
      (get_or l.reads.items j 0);
}
