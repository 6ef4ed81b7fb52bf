use Rattle.std.proofs.Common.{ℕ, List, subst, IfOk}
use Rattle.lig_proof.specs.Acceptance.{IsVerdict}
use Rattle.lig_auditor.proofs.verdicts.audit.Goals as goal

pub returns : goal.returns
returns g c =
    let Of : List ℕ → Type 0 = λ bytes. IfOk c.audit_relation.result
    (λ verdict. IsVerdict bytes c.args.file.now c.args.publics.now c.args.proof.now verdict) in
    subst Of c.of.ensures c.audit_relation.ensures
