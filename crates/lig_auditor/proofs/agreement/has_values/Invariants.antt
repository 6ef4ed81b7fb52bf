use Rattle.std.proofs.Common.{◌≡◌, ℕ, ◌<◌, get_or}
use Rattle.gold_ntt.specs.Polynomial.{eval_at}
use Rattle.lig_auditor.proofs.agreement.has_values.Given as goal

abbrev pub invariant-loop-q : goal.invariant-loop-q
invariant-loop-q l =
    (k : ℕ) → k < l.q → eval_at l.polynomial (get_or l.points k 0) ≡ get_or l.values k 0
