use Rattle.std.proofs.Common.{◌≡◌, ◌*◌, ◌%◌}
use Rattle.gold_field.specs.declared.gold.TheConstants.{P}
use Rattle.gold_ntt.specs.Polynomial.{sum_to}
use Rattle.lig_proof.specs.Audit.{excess}
use Rattle.lig_proof.specs.Sent.{rho}
use Rattle.lig_auditor.proofs.products.product_value.Given as goal

abbrev pub invariant-loop-k : goal.invariant-loop-k
invariant-loop-k l =
    l.sum ≡ sum_to l.k
    (λ i. rho l.opening.params.now l.opening.challenges.now l.t i
    * excess l.opening.params.now l.column i) % P
