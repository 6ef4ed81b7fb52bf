use Rattle.std.proofs.Common.{ℕ, ◌<◌, ◌≤◌, get_or, length}
use Rattle.flow_core.specs.Counts.{times, IsIn}
use Rattle.flow_core.specs.Drawn.{row}
use Rattle.flow_core.proofs.drawing.names_once.Given as goal

abbrev pub invariant-loop-strand : goal.invariant-loop-strand
invariant-loop-strand l = record {
  marks : (c : ℕ) → get_or l.marks c 0 ≤ l.strand;
  near : (k c : ℕ) → k < l.strand → IsIn c (row l.lists k) → c < length l.fn.marks;
  once : (k c : ℕ) → k < l.strand → times c (row l.lists k) ≤ 1;
}
