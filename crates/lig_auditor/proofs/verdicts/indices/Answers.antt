use Rattle.std.proofs.Common.{◌≡◌, ℕ, List, ap, ◌∙◌, Vec, Global}
use Rattle.lig_merkle.specs.Shared.{AreOpened}
use Rattle.lig_proof.specs.Acceptance.{indices_in, polys_in, root_in}
use Rattle.lig_proof.specs.SharedProof.{opened_once}
use Rattle.lig_proof.specs.SharedReading.{IsAny}
use Rattle.lig_proof.specs.Transcript.{first_key, queries}
use Rattle.lig_auditor.specs.Ways.{HasWays}
use Rattle.lig_auditor.proofs.Concluding.{lifted, lifted_two, second_due, second_ways}
use Rattle.lig_auditor.proofs.verdicts.indices.Goals as goal

pub returns-in-Second-clause-value : goal.returns-in-Second-clause-value
returns-in-Second-clause-value c =
    let p = c.args.params.now in
    let first = c.args.first.now in
    let proof = c.args.proof.now in
    let drawn = c.deref.result.now in
    let are = c.deref.ensures.value ∙ c.in_ok-drawn.ensures.columns
    ∙ ap (queries p first) c.polys.ensures in
    lifted (λ (v : Vec ℕ Global). v.items ≡ opened_once p drawn)
    (λ (v : Vec ℕ Global). v.items
    ≡ indices_in p (queries p first (polys_in proof)) proof)
    c.opened_once.result
    (λ v once. second_due p first drawn v.items proof c.in-Second.field-0 c.in-Second.is are once)
    c.opened_once.ensures.once

pub returns-in-Second-clause-ways : goal.returns-in-Second-clause-ways
returns-in-Second-clause-ways c =
    let p = c.args.params.now in
    let first = c.args.first.now in
    let proof = c.args.proof.now in
    let drawn = c.deref.result.now in
    let are = c.deref.ensures.value ∙ c.in_ok-drawn.ensures.columns
    ∙ ap (queries p first) c.polys.ensures in
    lifted_two (λ (v : Vec ℕ Global). v.items ≡ opened_once p drawn)
    (λ (v : Vec ℕ Global). AreOpened p.depth v.items)
    (λ (v : Vec ℕ Global). (r1cs_bytes publics : List ℕ)
    → first ≡ first_key r1cs_bytes publics (root_in proof)
    → IsAny p r1cs_bytes publics proof → HasWays p v.items proof)
    c.opened_once.result
    (λ v once opened r1cs_bytes publics key h.
    second_ways p first drawn v.items proof c.in-Second.field-0 c.in-Second.is are once r1cs_bytes
    publics opened key h)
    c.opened_once.ensures.once c.opened_once.ensures.opened
