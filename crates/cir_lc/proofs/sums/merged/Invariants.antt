use Rattle.std.proofs.Common.{length, ◌-◌, ◌+◌, ◌≤◌, drop}
use Rattle.cir_lc.specs.Merge.{IsMerged}
use Rattle.cir_lc.proofs.sums.merged.Given as goal

abbrev pub invariant-loop-i : goal.invariant-loop-i
invariant-loop-i l = record {
  left : l.i ≤ length l.a;
  right : l.j ≤ length l.b;
  merged : IsMerged l.k l.a l.b l.sum.items (drop l.i l.a) (drop l.j l.b);
}

abbrev pub decreases-loop-i : goal.decreases-loop-i
decreases-loop-i l = length l.a - l.i + (length l.b - l.j)
