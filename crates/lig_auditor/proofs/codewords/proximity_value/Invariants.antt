use Rattle.std.proofs.Common.{◌≡◌, ◌*◌, ◌%◌}
use Rattle.gold_field.specs.declared.gold.TheConstants.{P}
use Rattle.gold_ntt.specs.Polynomial.{sum_to}
use Rattle.lig_proof.specs.Columns.{row_value}
use Rattle.lig_proof.specs.Sent.{alpha}
use Rattle.lig_auditor.proofs.codewords.proximity_value.Given as goal

abbrev pub invariant-loop-k : goal.invariant-loop-k
invariant-loop-k l =
    l.sum ≡ sum_to l.k
    (λ i. alpha l.opening.params.now l.opening.challenges.now l.t i * row_value l.column i) % P
