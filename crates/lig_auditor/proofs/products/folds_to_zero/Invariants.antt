use Rattle.std.proofs.Common.{◌≡◌, ℕ, ◌<◌}
use Rattle.lig_auditor.specs.Opened.{folded}
use Rattle.lig_auditor.proofs.products.folds_to_zero.Given as goal

abbrev pub invariant-loop-k : goal.invariant-loop-k
invariant-loop-k l = (i : ℕ) → i < l.k → folded l.l l.polynomial i ≡ 0
