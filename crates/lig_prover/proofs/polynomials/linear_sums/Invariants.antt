use Rattle.std.proofs.Common.{◌≡◌, ℕ, ◌+◌, ◌*◌, ◌%◌, ◌<◌, length, get_or}
use Rattle.gold_field.specs.declared.gold.TheConstants.{P}
use Rattle.gold_ntt.specs.Polynomial.{sum_to}
use Rattle.lig_prover.specs.Matrix.{entry_of}
use Rattle.lig_prover.proofs.polynomials.linear_sums.Given as goal

abbrev pub invariant-loop-k : goal.invariant-loop-k
invariant-loop-k l = (i : ℕ) → i < length l.sums → get_or l.sums i 0
    ≡ sum_to l.k (λ k. entry_of l.factors k (l.first + i)
    * entry_of l.codewords k (2 * (l.first + i))) % P
