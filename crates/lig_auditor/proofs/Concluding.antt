-- Verdicts from tests.
use Rattle.std.proofs.Common.{◌≡◌, ℕ, ◌+◌, ◌*◌, ◌<◌, List, [], length, Option, Some, None, Result}
use Rattle.std.proofs.Common.{Ok, Err, IfOk, MatchOption, IsTrue, Bool, ◌↔◌, map, sym, ap, subst}
use Rattle.std.proofs.Common.{◌∙◌, arith, All}
use Rattle.std.specs.List.{AllByRecursion}
use Rattle.std.proofs.lemmas.List.Elements.{All-from_recursion}
use Rattle.iden_files.specs.File.{File}
use Rattle.lig_layout.specs.declared.params.Params.{Params}
use Rattle.lig_layout.specs.Sizes.{IsParams, params_of}
use Rattle.lig_layout.specs.System.{right_sides, equation_count}
use Rattle.lig_proof.specs.declared.challenge.Challenges.{Challenges}
use Rattle.lig_proof.specs.declared.proof.Proof.{Proof}
use Rattle.lig_proof.specs.declared.shared_proof.Proof2.{Proof2}
use Rattle.lig_proof.specs.declared.shared_proof.AnyProof.{AnyProof}
use Rattle.lig_proof.specs.declared.shared_proof.AnyProof.TheVariants.{First, Second}
use Rattle.lig_proof.specs.declared.verdict.Verdict.{Verdict}
use Rattle.lig_proof.specs.declared.verdict.Verdict.TheVariants.{Accepted, PublicCount, BadPath}
use Rattle.lig_proof.specs.declared.verdict.Verdict.TheVariants.{Proximity as NotNear}
use Rattle.lig_proof.specs.declared.verdict.Verdict.TheVariants.{LinearSum as NotSum}
use Rattle.lig_proof.specs.declared.verdict.Verdict.TheVariants.{LinearColumn as NotLinear}
use Rattle.lig_proof.specs.declared.verdict.Verdict.TheVariants.{QuadZero as NotZero}
use Rattle.lig_proof.specs.declared.verdict.Verdict.TheVariants.{QuadColumn as NotProduct}
use Rattle.lig_proof.specs.ProofBytes.{opened_count, AreValues, IsProof}
use Rattle.lig_proof.specs.Transcript.{first_key, challenges_of, queries}
use Rattle.lig_proof.specs.SharedProof.{IsProof2, opened_once, opened_for}
use Rattle.lig_proof.specs.SharedReading.{IsAny, any_proof_of}
use Rattle.lig_proof.specs.Sent.{polynomials_of}
use Rattle.lig_proof.specs.Proving.{AreSystems, challenges_for}
use Rattle.lig_proof.specs.Audit.{Audit, Proximity, LinearSum, LinearColumn, QuadZero, QuadColumn}
use Rattle.lig_proof.specs.Audit.{IsTested}
use Rattle.lig_proof.specs.Acceptance.{IsFirstFailure, IsProofVerdict, IsReadVerdict, IsVerdict}
use Rattle.lig_layout.specs.System.{public_count}
use Rattle.lig_proof.specs.Acceptance.{indices_in, root_in, polys_in, columns_in}
use Rattle.lig_proof.specs.Acceptance.{ways_in, Leads}
use Rattle.lig_merkle.specs.Merkle.{leaf_hash}
use Rattle.lig_merkle.specs.Shared.{AreOpened, shared_count, root_of_many}
use Rattle.lig_auditor.specs.declared.opening.Opening.{Opening}
use Rattle.lig_auditor.specs.Opened.{audit_in, no_system}
use Rattle.lig_auditor.specs.Ways.{HasWays, IsFirstAstray}
use Rattle.lig_auditor.proofs.Systems.{systems_exist}

pub lifted : {X E : Type 0} (A B : X → Type 0) (r : Result X E) → ((x : X) → A x → B x) → IfOk r A
    → IfOk r B
lifted A B (Ok x) f a = f x a
lifted A B (Err e) f a = tt

-- the tests, in their order
module _ (f : File) (publics : List ℕ) (o : Opening) (is : o.params.now ≡ params_of f)
    (params : IsParams o.params.now) where
  abbrev Says : Verdict → Type 0
  Says v = (system : ℕ → ℕ → List ℕ) × AreSystems f o.challenges.now system
      × IsTested (audit_in o (right_sides f publics) system) v

  some : (system : ℕ → ℕ → List ℕ) × AreSystems f o.challenges.now system
  some = systems_exist f o.challenges.now (subst IsParams is params)

  abbrev Near : Type 0
  Near = Proximity (audit_in o [] no_system)

  abbrev Sum : Type 0
  Sum = LinearSum (audit_in o (right_sides f publics) no_system)

  abbrev Zero : Type 0
  Zero = QuadZero (audit_in o [] no_system)

  abbrev Product : Type 0
  Product = QuadColumn (audit_in o [] no_system)

  pub not_near : (Near → ⊥) → Says NotNear
  not_near n = (some.0, some.1, n)

  pub not_sum : Near → (Sum → ⊥) → Says NotSum
  not_sum a n = (some.0, some.1, (a, n))

  module _ (near : Near) (sum : Sum) where
    abbrev Linear : Type 0
    Linear = (system : ℕ → ℕ → List ℕ) → AreSystems f o.challenges.now system
        → LinearColumn (audit_in o [] system)

    pub not_linear : ((system : ℕ → ℕ → List ℕ) → AreSystems f o.challenges.now system
        → LinearColumn (audit_in o [] system) → ⊥) → Says NotLinear
    not_linear n = (some.0, some.1, (near, sum, n some.0 some.1))

    pub not_zero : Linear → (Zero → ⊥) → Says NotZero
    not_zero b n = (some.0, some.1, (near, sum, b some.0 some.1, n))

    pub not_product : Linear → Zero → (Product → ⊥) → Says NotProduct
    not_product b z n = (some.0, some.1, (near, sum, b some.0 some.1, z, n))

    pub accepted : Linear → Zero → Product → Says Accepted
    accepted b z q = (some.0, some.1, (near, sum, b some.0 some.1, z, q))

-- the same of what stands in a proof
abbrev pub audit_with : Params → Challenges → List ℕ → (ℕ → ℕ → List ℕ) → List ℕ → List ℕ
    → List (List ℕ) → Audit
audit_with p c right system polys indices columns = record {
  params = p;
  challenges = c;
  right_sides = right;
  system = system;
  sent = polynomials_of p polys;
  opened = indices;
  columns = columns;
}

module _ (f : File) (publics : List ℕ) (v : Verdict) where
  abbrev pub SaysOf : Params → Challenges → List ℕ → List ℕ → List (List ℕ) → Type 0
  SaysOf p c polys indices columns =
      (system : ℕ → ℕ → List ℕ) × AreSystems f c system
      × IsTested (audit_with p c (right_sides f publics) system polys indices columns) v

  pub moved : (p q : Params) (c d : Challenges) (polys others indices places : List ℕ)
      (columns many : List (List ℕ))
      → p ≡ q → c ≡ d → polys ≡ others → indices ≡ places → columns ≡ many
      → SaysOf p c polys indices columns → SaysOf q d others places many
  moved p q c d polys others indices places columns many ep ec eo ei em h =
      subst (λ (x : Params). SaysOf x d others places many) ep
      (subst (λ (x : Challenges). SaysOf p x others places many) ec
      (subst (λ (x : List ℕ). SaysOf p c x places many) eo
      (subst (λ (x : List ℕ). SaysOf p c polys x many) ei
      (subst (λ (x : List (List ℕ)). SaysOf p c polys indices x) em h))))

-- the tests alone say nothing of paths
passed : (n : ℕ) (LeadsAt : ℕ → Type 0) (a : (ℕ → ℕ → List ℕ) → Audit) (Is : (ℕ → ℕ → List ℕ)
    → Type 0) (v : Verdict) → ((q : ℕ) → q < n → LeadsAt q)
    → (system : ℕ → ℕ → List ℕ) × Is system × IsTested (a system) v
    → IsFirstFailure n LeadsAt ((system : ℕ → ℕ → List ℕ) × Is system × IsTested (a system) v) v
passed n LeadsAt a Is (BadPath opened) lead h = absurd h.2
passed n LeadsAt a Is _ lead h = (lead, h)

module _ (r1cs_bytes : List ℕ) (f : File) (publics : List ℕ) (proof : AnyProof) where
  abbrev pub due : List ℕ
  due =
      let p = params_of f in
      let c = challenges_for r1cs_bytes f publics (root_in proof) in
      indices_in p (queries p c.first (polys_in proof)) proof

  pub proof_verdict : (v : Verdict) (p : Params) (c : Challenges) (polys indices : List ℕ)
      (columns : List (List ℕ))
      → p ≡ params_of f → c ≡ challenges_for r1cs_bytes f publics (root_in proof)
      → polys ≡ polys_in proof → indices ≡ due → columns ≡ columns_in proof
      → ((q : ℕ) → q < ways_in proof → Leads (params_of f) due proof q)
      → SaysOf f publics v p c polys indices columns → IsProofVerdict r1cs_bytes f publics proof v
  proof_verdict v p c polys indices columns ep ec eo ei em lead h =
      let q = params_of f in
      let d = challenges_for r1cs_bytes f publics (root_in proof) in
      passed (ways_in proof) (Leads q due proof)
      (λ system. audit_with q d (right_sides f publics) system (polys_in proof) due
      (columns_in proof))
      (AreSystems f d) v lead
      (moved f publics v p q c d polys (polys_in proof) indices due columns
      (columns_in proof) ep ec eo ei em h)

-- the challenges, as a call made them
pub challenges_are : (r1cs_bytes publics root : List ℕ) (p : Params) (f : File) (equations : ℕ)
    (c : Challenges) → p ≡ params_of f → equations ≡ equation_count f
    → c ≡ challenges_of p equations (first_key r1cs_bytes publics root)
    → c ≡ challenges_for r1cs_bytes f publics root
challenges_are r1cs_bytes publics root p f equations c ep ee ec =
    let first = first_key r1cs_bytes publics root in
    ec ∙ ap (λ q. challenges_of q equations first) ep
    ∙ ap (λ n. challenges_of (params_of f) n first) ee

-- the first key, from such challenges
pub first_is : (p : Params) (equations : ℕ) (c : Challenges) (key : List ℕ)
    → c ≡ challenges_of p equations key → c.first ≡ key
first_is p equations c key made = ap (λ (d : Challenges). d.first) made

module _ (r1cs_bytes : List ℕ) (f : File) (publics : List ℕ) (proof : AnyProof) (p : Params)
    (is : p ≡ params_of f) (indices : List ℕ) where
  pub are_due : (c : Challenges) → c ≡ challenges_for r1cs_bytes f publics (root_in proof)
      → indices ≡ indices_in p (queries p c.first (polys_in proof)) proof
      → indices ≡ due r1cs_bytes f publics proof
  are_due c made are =
      let polys = polys_in proof in
      are ∙ ap (λ q. indices_in q (queries q c.first polys) proof) is
      ∙ ap (λ (d : Challenges).
      indices_in (params_of f) (queries (params_of f) d.first polys) proof) made

  module _ (are : indices ≡ due r1cs_bytes f publics proof) where
    at_due : (way : Option ℕ) → IsFirstAstray p indices proof way
        → IsFirstAstray (params_of f) (due r1cs_bytes f publics proof) proof way
    at_due way h =
        subst (λ (xs : List ℕ). IsFirstAstray (params_of f) xs proof way) are
        (subst (λ (q : Params). IsFirstAstray q indices proof way) is h)

    pub astray : (opened : ℕ) → IsFirstAstray p indices proof (Some opened)
        → IsProofVerdict r1cs_bytes f publics proof (BadPath opened)
    astray opened h = at_due (Some opened) h

    pub all_lead : IsFirstAstray p indices proof None → (q : ℕ) → q < ways_in proof
        → Leads (params_of f) (due r1cs_bytes f publics proof) proof q
    all_lead h = at_due None h

-- the verdict on the bytes
pub as_verdict : (r1cs_bytes : List ℕ) (f : File) (publics bytes : List ℕ) (proof : AnyProof)
    (v : Verdict) → length publics ≡ public_count f
    → any_proof_of (params_of f) r1cs_bytes publics bytes ≡ Ok proof
    → IsProofVerdict r1cs_bytes f publics proof v → IsVerdict r1cs_bytes f publics bytes v
as_verdict r1cs_bytes f publics bytes proof PublicCount count read h = absurd h.1.2
as_verdict r1cs_bytes f publics bytes proof v count read h =
    (count, subst (λ (r : Result AnyProof ℕ). IsReadVerdict r1cs_bytes f publics r v) (sym read) h)

pub each_length : (n : ℕ) (columns : List (List ℕ)) → AllByRecursion (AreValues n) columns
    → All (λ column. length column ≡ n) columns
each_length n columns h = λ k d low. (All-from_recursion (AreValues n) columns h k d low).count

-- what a proof that was read has, of either version
pub any_fits : (p : Params) (r1cs_bytes publics : List ℕ) (proof : AnyProof)
    → IsAny p r1cs_bytes publics proof
    → (length (polys_in proof) ≡ 18 * p.l)
    × All (λ column. length column ≡ p.rows + 6) (columns_in proof)
any_fits p r1cs_bytes publics (First proof) h =
    (h.polys.count, each_length (p.rows + 6) proof.columns h.columns)
any_fits p r1cs_bytes publics (Second proof) h =
    (h.polys.count, each_length (p.rows + 6) proof.columns h.columns)

pub ways_count : (p : Params) (indices : List ℕ) (proof : AnyProof) → HasWays p indices proof
    → length indices ≡ length (columns_in proof)
ways_count p indices (First proof) h = h.0
ways_count p indices (Second proof) h = h.0

-- the ways of the columns that were drawn
pub drawn_ways : (p : Params) (r1cs_bytes publics drawn : List ℕ) (proof : Proof)
    → length drawn ≡ opened_count → IsProof p proof → HasWays p drawn (First proof)
drawn_ways p r1cs_bytes publics drawn proof count h =
    (count ∙ sym h.opened, h.paths_opened ∙ sym h.opened, h.opened)

pub once_ways : (p : Params) (r1cs_bytes publics first drawn once : List ℕ) (proof : Proof2)
    → first ≡ first_key r1cs_bytes publics proof.root
    → drawn ≡ queries p first proof.polys → once ≡ opened_once p drawn
    → AreOpened p.depth once
    → IsProof2 p (opened_for p r1cs_bytes publics proof.root proof.polys) proof
    → HasWays p once (Second proof)
once_ways p r1cs_bytes publics first drawn once proof key are is opened h =
    let due : once ≡ opened_for p r1cs_bytes publics proof.root proof.polys =
    is ∙ ap (opened_once p) (are ∙ ap (λ k. queries p k proof.polys) key) in (
      ap length due ∙ sym h.columns_count,
      h.nodes_count ∙ sym (ap (shared_count p.depth) due),
      opened,
    )

-- the only way of all columns
pub only_way : (p : Params) (indices : List ℕ) (proof : Proof2) (leads : Bool) (way : Option ℕ)
    → (IsTrue leads
    ↔ (root_of_many p.depth indices (map leaf_hash proof.columns) proof.nodes ≡ proof.root))
    → MatchOption way (IsTrue leads) (λ w. (w ≡ 0) × (¬ IsTrue leads))
    → IsFirstAstray p indices (Second proof) way
only_way p indices proof leads None is h = λ q low. is.0 h
only_way p indices proof leads (Some w) is h =
    (omega (arith, h.0), λ q low. absurd (omega (arith, h.0)), λ l. h.1 (is.1 l))

pub lifted_two : {X E : Type 0} (A B C : X → Type 0) (r : Result X E)
    → ((x : X) → A x → B x → C x) → IfOk r A → IfOk r B → IfOk r C
lifted_two A B C (Ok x) f a b = f x a b
lifted_two A B C (Err e) f a b = tt

module _ (p : Params) (first drawn once : List ℕ) (proof : AnyProof) (second : Proof2)
    (is : proof ≡ Second second) (are : drawn ≡ queries p first (polys_in proof))
    (each_once : once ≡ opened_once p drawn) where
  pub second_due : once ≡ indices_in p (queries p first (polys_in proof)) proof
  second_due =
      each_once ∙ ap (opened_once p) are
      ∙ sym (ap (indices_in p (queries p first (polys_in proof))) is)

  pub second_ways : (r1cs_bytes publics : List ℕ) → AreOpened p.depth once
      → first ≡ first_key r1cs_bytes publics (root_in proof)
      → IsAny p r1cs_bytes publics proof → HasWays p once proof
  second_ways r1cs_bytes publics opened key h =
      let Holds : AnyProof → Type 0 = λ q. drawn ≡ queries p first (polys_in q)
      → first ≡ first_key r1cs_bytes publics (root_in q)
      → IsAny p r1cs_bytes publics q → HasWays p once q in
      let at_second : Holds (Second second) =
      λ b k i. once_ways p r1cs_bytes publics first drawn once second k b each_once opened i in
      subst Holds (sym is) at_second are key h
