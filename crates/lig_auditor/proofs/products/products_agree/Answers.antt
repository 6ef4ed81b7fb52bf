use Rattle.std.proofs.Common.{ℕ, ◌↔◌, List, IsTrue, IfOk, subst}
use Rattle.lig_proof.specs.Audit.{product_value}
use Rattle.lig_auditor.specs.Opened.{Agrees, column_of}
use Rattle.lig_auditor.proofs.Concluding.{lifted}
use Rattle.lig_auditor.proofs.products.products_agree.Goals as goal

pub returns : goal.returns
returns g c =
    let o = c.args.opening.now in
    let f : ℕ → ℕ = λ q.
    product_value o.params.now o.challenges.now c.args.t (column_of o q) in
    let Says : List ℕ → Type 0 = λ s. IfOk c.agrees.result (λ holds. IsTrue holds ↔ Agrees o s f) in
    subst Says c.product_polynomial-polynomial.ensures.value
    (lifted _ (λ holds. IsTrue holds ↔ Agrees o c.product_polynomial-polynomial.result.now f)
    c.agrees.result
    (λ holds h. h f (λ q x low is. is)) c.agrees.ensures)
