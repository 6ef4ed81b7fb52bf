use Rattle.std.proofs.Common.{◌≡◌, ℕ, ◌+◌, ◌<◌, length, get_or}
use Rattle.flow_core.specs.Net.{preds_of}
use Rattle.flow_board.proofs.opening.write_counters.Given as goal

abbrev pub invariant-loop-strand : goal.invariant-loop-strand
invariant-loop-strand l = record {
  counters : (k : ℕ) → k < l.strand → get_or l.words (l.base + k) 0 ≡ length (preds_of l.graph k);
  others : (i : ℕ) → i < l.base → get_or l.words i 0 ≡ get_or l.fn.words i 0;
}
