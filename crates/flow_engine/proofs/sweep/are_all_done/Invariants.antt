use Rattle.std.proofs.Common.{◌≡◌, ℕ, ◌<◌, true}
use Rattle.flow_board.specs.Closed.{done_in}
use Rattle.flow_engine.proofs.sweep.are_all_done.Given as goal

abbrev pub invariant-loop-strand : goal.invariant-loop-strand
invariant-loop-strand l = (k : ℕ) → k < l.strand → done_in l.words k ≡ true
