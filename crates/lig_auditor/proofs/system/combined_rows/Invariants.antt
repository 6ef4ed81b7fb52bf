use Rattle.std.proofs.Common.{◌≡◌, ◌*◌, ◌%◌, ℕ, List, [], get_or}
use Rattle.gold_field.specs.declared.gold.TheConstants.{P}
use Rattle.gold_ntt.specs.Polynomial.{sum_to, eval_at}
use Rattle.lig_proof.specs.Columns.{row_value}
use Rattle.lig_proof.specs.Encoding.{InterpolateRows}
use Rattle.lig_proof.specs.Points.{code_point}
use Rattle.lig_auditor.proofs.system.combined_rows.Given as goal

abbrev pub invariant-loop-k : goal.invariant-loop-k
invariant-loop-k l =
    let o = l.opening in
    let p = o.params.now in
    let x = code_point p (get_or o.indices.now l.q 0) in
    (rows : ℕ → List ℕ) → InterpolateRows p l.values rows → l.sum ≡ sum_to l.k
    (λ k. eval_at (rows k) x * row_value (get_or o.columns.now l.q []) k) % P
