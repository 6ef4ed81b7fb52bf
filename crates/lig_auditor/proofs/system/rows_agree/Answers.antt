use Rattle.std.proofs.Common.{ℕ, ◌↔◌, List, IsTrue, IfOk, subst}
use Rattle.lig_proof.specs.Audit.{system_value}
use Rattle.lig_proof.specs.Encoding.{InterpolateRows}
use Rattle.lig_auditor.specs.Opened.{Agrees, column_of, point_of}
use Rattle.lig_auditor.proofs.Concluding.{lifted}
use Rattle.lig_auditor.proofs.system.rows_agree.Goals as goal

pub returns : goal.returns
returns g c =
    let o = c.args.opening.now in
    let p = o.params.now in
    let value = λ (rows : ℕ → List ℕ) (q : ℕ).
    system_value p rows c.args.t (point_of o q) (column_of o q) in
    let Says : List ℕ → Type 0 = λ s. IfOk c.agrees.result (λ holds. (rows : ℕ → List ℕ)
    → InterpolateRows p c.args.values.now rows → IsTrue holds ↔ Agrees o s (value rows)) in
    subst Says c.linear_polynomial-polynomial.ensures.value
    (lifted _ (λ holds. (rows : ℕ → List ℕ) → InterpolateRows p c.args.values.now rows
    → IsTrue holds ↔ Agrees o c.linear_polynomial-polynomial.result.now (value rows))
    c.agrees.result
    (λ holds h rows are. h (value rows) (λ q x low is. is rows are)) c.agrees.ensures)
