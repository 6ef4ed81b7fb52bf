use Rattle.std.proofs.Common.{◌≡◌, length, ap, sym, ◌∙◌, arith}
use Rattle.lig_layout.specs.System.{public_count}
use Rattle.lig_proof.specs.Acceptance.{IsProofVerdict, IsVerdict}
use Rattle.lig_proof.specs.SharedReading.{any_proof_of}
use Rattle.lig_auditor.proofs.Concluding.{lifted, as_verdict}
use Rattle.lig_auditor.proofs.verdicts.audit_relation.Goals as goal

pub read_any-requires-clause-publics : goal.read_any-requires-clause-publics
read_any-requires-clause-publics g c = omega (arith, c.public_count.ensures.few)

pub returns-in-Ok : goal.returns-in-Ok
returns-in-Ok g c =
    let r1cs_bytes = c.args.relation.now.bytes.now in
    let f = c.args.file.now in
    let publics = c.args.publics.now in
    let bytes = c.args.proof.now in
    let proof = c.in-Ok.proof in
    let count : length publics ≡ public_count f = omega (arith, c.public_count.ensures.value) in
    let read =
    ap (λ p. any_proof_of p r1cs_bytes publics bytes) (sym c.of-params.ensures.value)
    ∙ c.in-Ok.ensures.exact in
    lifted (λ v. IsProofVerdict r1cs_bytes f publics proof v)
    (λ v. IsVerdict r1cs_bytes f publics bytes v) c.audit_proof.result
    (λ v h. as_verdict r1cs_bytes f publics bytes proof v count read h) c.audit_proof.ensures
