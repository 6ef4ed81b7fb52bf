use Rattle.std.proofs.Common.{◌≡◌, ℕ, ◌<◌, take, get_or, None}
use Rattle.flow_core.specs.Counts.{IsIn}
use Rattle.flow_core.specs.Net.{writes_of}
use Rattle.flow_core.proofs.state.leaves_written.Given as goal

abbrev pub invariant-loop-strand : goal.invariant-loop-strand
invariant-loop-strand l = (k c : ℕ) → k < l.strand → IsIn c (writes_of l.graph k)
    → get_or l.start c None ≡ None

abbrev pub invariant-loop-cell : goal.invariant-loop-cell
invariant-loop-cell l = (c : ℕ) → IsIn c (take l.cell-index (writes_of l.graph l.strand))
    → get_or l.start c None ≡ None
