use Rattle.std.proofs.Common.{◌≡◌, ℕ, ◌<◌, length, get_or}
use Rattle.lig_proof.specs.Points.{code_point}
use Rattle.lig_auditor.proofs.opening.points.Given as goal

abbrev pub invariant-loop-index : goal.invariant-loop-index
invariant-loop-index l = record {
  count : length l.points.items ≡ l.index-index;
  each : (q : ℕ) → q < l.index-index
      → get_or l.points.items q 0 ≡ code_point l.params (get_or l.indices q 0);
}
