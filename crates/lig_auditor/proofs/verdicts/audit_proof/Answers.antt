use Rattle.std.proofs.Common.{◌≡◌, ℕ, ◌+◌, List, length, Option, ap, sym, subst, ◌∙◌, All}
use Rattle.lig_proof.specs.Acceptance.{IsProofVerdict, root_in}
use Rattle.lig_proof.specs.Transcript.{first_key, challenges_of}
use Rattle.lig_auditor.specs.Ways.{HasWays, IsFirstAstray}
use Rattle.lig_auditor.proofs.Concluding.{SaysOf, lifted, challenges_are, first_is, are_due, astray}
use Rattle.lig_auditor.proofs.Concluding.{all_lead, proof_verdict, any_fits, ways_count}
use Rattle.lig_auditor.proofs.verdicts.audit_proof.Goals as goal

pub first_astray-requires-clause-ways : goal.first_astray-requires-clause-ways
first_astray-requires-clause-ways g c =
    let r1cs_bytes = c.args.relation.now.bytes.now in
    let publics = c.args.publics.now in
    let p = c.args.params.now in
    let proof = c.args.proof.now in
    let challenges = c.in_ok-challenges.challenges in
    let first =
    first_is p c.equation_count-equations.result challenges
    (first_key r1cs_bytes publics c.root.result.now) c.in_ok-challenges.ensures.value
    ∙ ap (first_key r1cs_bytes publics) c.root.ensures in
    let Ways : List ℕ → Type 0 = λ xs. HasWays p xs proof in
    subst Ways (sym c.deref.ensures.value)
    (c.in_ok-indices.ensures.ways r1cs_bytes publics first c.requires.proof)

pub returns-in-Some : goal.returns-in-Some
returns-in-Some g c =
    let r1cs_bytes = c.args.relation.now.bytes.now in
    let f = c.args.file.now in
    let publics = c.args.publics.now in
    let p = c.args.params.now in
    let proof = c.args.proof.now in
    let challenges = c.in_ok-challenges.challenges in
    let n = c.equation_count-equations.result in
    let made =
    challenges_are r1cs_bytes publics (root_in proof) p f n challenges c.requires.params
    c.equation_count-equations.ensures
    (c.in_ok-challenges.ensures.value
    ∙ ap (λ r. challenges_of p n (first_key r1cs_bytes publics r)) c.root.ensures) in
    let due =
    are_due r1cs_bytes f publics proof p c.requires.params c.deref.result.now challenges made
    (c.deref.ensures.value ∙ c.in_ok-indices.ensures.value) in
    let Way : Option ℕ → Type 0 = λ way. IsFirstAstray p c.deref.result.now proof way in
    astray r1cs_bytes f publics proof p c.requires.params c.deref.result.now due c.in-Some.opened
    (subst Way c.in-Some.is c.in_ok-way.ensures)

pub tested-requires-clause-opening : goal.tested-requires-clause-opening
tested-requires-clause-opening g c κs within =
    let r1cs_bytes = c.args.relation.now.bytes.now in
    let publics = c.args.publics.now in
    let p = c.args.params.now in
    let proof = c.args.proof.now in
    let challenges = c.in_ok-challenges.challenges in
    let first =
    first_is p c.equation_count-equations.result challenges
    (first_key r1cs_bytes publics c.root.result.now) c.in_ok-challenges.ensures.value
    ∙ ap (first_key r1cs_bytes publics) c.root.ensures in
    let ways = c.in_ok-indices.ensures.ways r1cs_bytes publics first c.requires.proof in
    let fits = any_fits p r1cs_bytes publics proof c.requires.proof in
    let Each : List (List ℕ) → Type 0 = λ cs. All (λ column. length column ≡ p.rows + 6) cs in
    record {
      params = c.requires.sizes;
      alpha = c.in_ok-challenges.ensures.alpha;
      rho = c.in_ok-challenges.ensures.rho;
      polys = ap length c.polys.ensures ∙ fits.0;
      indices = ap length c.deref-2.ensures.value
          ∙ ways_count p c.in_ok-indices.indices.items proof ways
          ∙ ap length (sym c.columns.ensures);
      columns = subst Each (sym c.columns.ensures) fits.1;
    }

pub returns : goal.returns
returns g c =
    let r1cs_bytes = c.args.relation.now.bytes.now in
    let f = c.args.file.now in
    let publics = c.args.publics.now in
    let p = c.args.params.now in
    let proof = c.args.proof.now in
    let challenges = c.in_ok-challenges.challenges in
    let n = c.equation_count-equations.result in
    let made =
    challenges_are r1cs_bytes publics (root_in proof) p f n challenges c.requires.params
    c.equation_count-equations.ensures
    (c.in_ok-challenges.ensures.value
    ∙ ap (λ r. challenges_of p n (first_key r1cs_bytes publics r)) c.root.ensures) in
    let due =
    are_due r1cs_bytes f publics proof p c.requires.params c.deref.result.now challenges made
    (c.deref.ensures.value ∙ c.in_ok-indices.ensures.value) in
    let again =
    are_due r1cs_bytes f publics proof p c.requires.params c.deref-2.result.now challenges made
    (c.deref-2.ensures.value ∙ c.in_ok-indices.ensures.value) in
    let Way : Option ℕ → Type 0 = λ way. IsFirstAstray p c.deref.result.now proof way in
    let lead =
    all_lead r1cs_bytes f publics proof p c.requires.params c.deref.result.now due
    (subst Way c.in_default.is c.in_ok-way.ensures) in
    lifted (λ v. SaysOf f publics v p challenges c.polys.result.now c.deref-2.result.now
    c.columns.result.now)
    (λ v. IsProofVerdict r1cs_bytes f publics proof v) c.tested.result
    (λ v h. proof_verdict r1cs_bytes f publics proof v p challenges c.polys.result.now
    c.deref-2.result.now c.columns.result.now c.requires.params made c.polys.ensures again
    c.columns.ensures lead h)
    c.tested.ensures
