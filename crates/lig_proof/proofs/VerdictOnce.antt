-- Bytes have one verdict.
use Rattle.std.proofs.Common.{◌≡◌, ℕ, zero, suc, ◌+◌, ◌*◌, ◌%◌, ◌<◌, ◌≤◌, List, [], Result, Ok, Err}
use Rattle.std.proofs.Common.{get_or, refl, sym, ap, ◌∙◌, arith, ⊎_elim}
use Rattle.std.proofs.lemmas.Bool.{cases_order}
use Rattle.gold_field.specs.declared.gold.TheConstants.{P}
use Rattle.gold_ntt.specs.Polynomial.{eval_at}
use Rattle.gold_ntt.proofs.Sums.{sum_same}
use Rattle.iden_files.specs.File.{File}
use Rattle.lig_layout.specs.declared.params.Params.{Params}
use Rattle.lig_layout.specs.Sizes.{params_of, IsParams}
use Rattle.lig_layout.specs.Layout.{row_at}
use Rattle.lig_layout.specs.System.{combined, left_sides, equation_count}
use Rattle.lig_proof.specs.declared.challenge.Challenges.{Challenges}
use Rattle.lig_proof.specs.declared.shared_proof.AnyProof.{AnyProof}
use Rattle.lig_proof.specs.declared.verdict.Verdict.{Verdict}
use Rattle.lig_proof.specs.declared.verdict.Verdict.TheVariants.{Accepted, PublicCount, Malformed}
use Rattle.lig_proof.specs.declared.verdict.Verdict.TheVariants.{BadPath, Proximity as NotNear}
use Rattle.lig_proof.specs.declared.verdict.Verdict.TheVariants.{LinearSum as NotSum}
use Rattle.lig_proof.specs.declared.verdict.Verdict.TheVariants.{LinearColumn as NotLinear}
use Rattle.lig_proof.specs.declared.verdict.Verdict.TheVariants.{QuadZero as NotZero}
use Rattle.lig_proof.specs.declared.verdict.Verdict.TheVariants.{QuadColumn as NotProduct}
use Rattle.lig_proof.specs.Transcript.{queries}
use Rattle.lig_proof.specs.Points.{code_point}
use Rattle.lig_proof.specs.Columns.{linear_mask_value, row_value}
use Rattle.lig_proof.specs.Sent.{r_numbers}
use Rattle.lig_proof.specs.Proving.{AreSystems, challenges_for}
use Rattle.lig_proof.specs.SharedReading.{any_proof_of}
use Rattle.lig_proof.specs.Audit.{Audit, Proximity, LinearSum, LinearColumn, QuadZero, QuadColumn}
use Rattle.lig_proof.specs.Audit.{IsTested}
use Rattle.lig_proof.specs.Acceptance.{audit_of, root_in, polys_in, columns_in, indices_in, ways_in}
use Rattle.lig_proof.specs.Acceptance.{Leads, IsFirstFailure, IsReadVerdict, VerdictsAreOne}
use Rattle.lig_proof.proofs.Interpolants.{polynomials_are_one}

-- the tests by their place in the order
abbrev Test : Audit → ℕ → Type 0
Test a zero = Proximity a
Test a (suc zero) = LinearSum a
Test a (suc (suc zero)) = LinearColumn a
Test a (suc (suc (suc zero))) = QuadZero a
Test a (suc (suc (suc (suc k)))) = QuadColumn a

-- how many tests came before the verdict
abbrev passed : Verdict → ℕ
passed NotNear = 0
passed NotSum = 1
passed NotLinear = 2
passed NotZero = 3
passed NotProduct = 4
passed _ = 5

passes : (a : Audit) (v : Verdict) → IsTested a v → (k : ℕ) → k < passed v → k < 5 → Test a k
passes a Accepted h zero l m = h.0
passes a Accepted h (suc zero) l m = h.1
passes a Accepted h (suc (suc zero)) l m = h.2
passes a Accepted h (suc (suc (suc zero))) l m = h.3
passes a Accepted h (suc (suc (suc (suc k)))) l m = h.4
passes a NotNear h k l m = absurd (omega arith)
passes a NotSum h zero l m = h.0
passes a NotSum h (suc k) l m = absurd (omega arith)
passes a NotLinear h zero l m = h.0
passes a NotLinear h (suc zero) l m = h.1
passes a NotLinear h (suc (suc k)) l m = absurd (omega arith)
passes a NotZero h zero l m = h.0
passes a NotZero h (suc zero) l m = h.1
passes a NotZero h (suc (suc zero)) l m = h.2
passes a NotZero h (suc (suc (suc k))) l m = absurd (omega arith)
passes a NotProduct h zero l m = h.0
passes a NotProduct h (suc zero) l m = h.1
passes a NotProduct h (suc (suc zero)) l m = h.2
passes a NotProduct h (suc (suc (suc zero))) l m = h.3
passes a NotProduct h (suc (suc (suc (suc k)))) l m = absurd (omega arith)
passes a _ h k l m = absurd h

fails : (a : Audit) (v : Verdict) → IsTested a v → passed v < 5 → ¬ Test a (passed v)
fails a NotNear h l = h
fails a NotSum h l = h.1
fails a NotLinear h l = h.2
fails a NotZero h l = h.3
fails a NotProduct h l = h.4
fails a _ h l = absurd (omega arith)

-- a verdict of the tests is told by how many came before it
same_place : (a : Audit) (v w : Verdict) → IsTested a v → IsTested a w → passed v ≡ passed w → v ≡ w
same_place a Accepted Accepted h k e = refl
same_place a NotNear NotNear h k e = refl
same_place a NotSum NotSum h k e = refl
same_place a NotLinear NotLinear h k e = refl
same_place a NotZero NotZero h k e = refl
same_place a NotProduct NotProduct h k e = refl
same_place a PublicCount w h k e = absurd h
same_place a (Malformed offset) w h k e = absurd h
same_place a (BadPath opened) w h k e = absurd h
same_place a v PublicCount h k e = absurd k
same_place a v (Malformed offset) h k e = absurd k
same_place a v (BadPath opened) h k e = absurd k
same_place a _ _ h k e = absurd (omega arith)

most : (v : Verdict) → passed v ≤ 5
most NotNear = omega arith
most NotSum = omega arith
most NotLinear = omega arith
most NotZero = omega arith
most NotProduct = omega arith
most _ = omega arith

before : (a : Audit) (v w : Verdict) → IsTested a v → IsTested a w → passed v < passed w → ⊥
before a v w h k l =
    let end = most w in fails a v h (omega arith) (passes a w k (passed v) l (omega arith))

tested_once : (a : Audit) (v w : Verdict) → IsTested a v → IsTested a w → v ≡ w
tested_once a v w h k =
    ⊎_elim (λ e. same_place a v w h k e)
    (λ o. absurd (⊎_elim (λ l. before a v w h k l) (λ g. before a w v k h g) o))
    (cases_order (passed v) (passed w))

-- the polynomials of the system count only in the rows that there are
abbrev AreSame : Params → (ℕ → ℕ → List ℕ) → (ℕ → ℕ → List ℕ) → Type 0
AreSame p first second = (t k : ℕ) → t < 2 → k < p.rows → first t k ≡ second t k

module _ (f : File) (publics : List ℕ) (c : Challenges) (indices : List ℕ) (proof : AnyProof)
    (first second : ℕ → ℕ → List ℕ) (same : AreSame (params_of f) first second) where
  linear_moved : LinearColumn (audit_of f publics c first indices proof)
      → LinearColumn (audit_of f publics c second indices proof)
  linear_moved h = λ t q l m.
      let p = params_of f in
      let x = code_point p (get_or indices q 0) in
      let column = get_or (columns_in proof) q [] in
      h t q l m ∙ ap (λ n. (linear_mask_value p column t + n) % P)
      (sum_same p.rows (λ k. eval_at (first t k) x * row_value column k)
      (λ k. eval_at (second t k) x * row_value column k)
      (λ k r. ap (λ s. eval_at s x * row_value column k) (same t k l r)))

back : (p : Params) (first second : ℕ → ℕ → List ℕ) → AreSame p first second
    → AreSame p second first
back p first second same = λ t k l r. sym (same t k l r)

module _ (f : File) (publics : List ℕ) (c : Challenges) (indices : List ℕ) (proof : AnyProof)
    (first second : ℕ → ℕ → List ℕ) (same : AreSame (params_of f) first second) where
  tested_moved : (v : Verdict) → IsTested (audit_of f publics c first indices proof) v
      → IsTested (audit_of f publics c second indices proof) v
  tested_moved Accepted h =
      (h.0, h.1, linear_moved f publics c indices proof first second same h.2, h.3, h.4)
  tested_moved NotNear h = h
  tested_moved NotSum h = h
  tested_moved NotLinear h = (
    h.0,
    h.1,
    λ holds. h.2
        (linear_moved f publics c indices proof second first (back (params_of f) first second same)
        holds),
  )
  tested_moved NotZero h =
      (h.0, h.1, linear_moved f publics c indices proof first second same h.2, h.3)
  tested_moved NotProduct h =
      (h.0, h.1, linear_moved f publics c indices proof first second same h.2, h.3, h.4)
  tested_moved _ h = absurd h

systems_once : (f : File) (c : Challenges) (first second : ℕ → ℕ → List ℕ) → IsParams (params_of f)
    → AreSystems f c first → AreSystems f c second → AreSame (params_of f) first second
systems_once f c first second h one two = λ t k l r.
    let p = params_of f in
    polynomials_are_one p
    (row_at p (combined (p.rows * p.l) (r_numbers (equation_count f) c t) (left_sides p f)) k)
    (first t k) (second t k) h (one t l k r) (two t l k r)

-- of n ways the first that fails is one, and the tests say one thing
module _ (n : ℕ) (LeadsAt : ℕ → Type 0) (Tested : Verdict → Type 0) (once : (v w : Verdict)
    → Tested v → Tested w → v ≡ w) where
  places_once : (a b : ℕ) → (a < n) × ((q : ℕ) → q < a → LeadsAt q) × (¬ LeadsAt a)
      → (b < n) × ((q : ℕ) → q < b → LeadsAt q) × (¬ LeadsAt b) → a ≡ b
  places_once a b h k =
      ⊎_elim (λ e. e) (λ o. absurd (⊎_elim (λ l. h.2 (k.1 a l)) (λ g. k.2 (h.1 b g)) o))
      (cases_order a b)

  failures_once : (v w : Verdict) → IsFirstFailure n LeadsAt (Tested v) v
      → IsFirstFailure n LeadsAt (Tested w) w → v ≡ w
  failures_once (BadPath a) (BadPath b) h k = ap (λ i. BadPath i) (places_once a b h k)
  failures_once (BadPath a) _ h k = absurd (h.2 (k.0 a h.0))
  failures_once _ (BadPath b) h k = absurd (k.2 (h.0 b k.0))
  failures_once v w h k = once v w h.1 k.1

read_once : (r1cs_bytes : List ℕ) (f : File) (publics : List ℕ) (reading : Result AnyProof ℕ)
    (v w : Verdict) → IsParams (params_of f)
    → IsReadVerdict r1cs_bytes f publics reading v → IsReadVerdict r1cs_bytes f publics reading w
    → v ≡ w
read_once r1cs_bytes f publics (Err offset) v w params h k = h ∙ sym k
read_once r1cs_bytes f publics (Ok proof) v w params h k =
    let p = params_of f in
    let c = challenges_for r1cs_bytes f publics (root_in proof) in
    let indices = indices_in p (queries p c.first (polys_in proof)) proof in
    let audit = λ (system : ℕ → ℕ → List ℕ). audit_of f publics c system indices proof in
    let Tested : Verdict → Type 0 =
    λ x. (system : ℕ → ℕ → List ℕ) × AreSystems f c system × IsTested (audit system) x in
    let once : (x y : Verdict) → Tested x → Tested y → x ≡ y = λ x y one two.
    tested_once (audit two.0) x y
    (tested_moved f publics c indices proof one.0 two.0
    (systems_once f c one.0 two.0 params one.1 two.1) x one.2) two.2 in
    failures_once (ways_in proof) (Leads p indices proof) Tested once v w h k

pub verdicts_are_one : VerdictsAreOne
verdicts_are_one r1cs_bytes f publics bytes PublicCount PublicCount params h k = refl
verdicts_are_one r1cs_bytes f publics bytes PublicCount _ params h k = absurd (h k.0)
verdicts_are_one r1cs_bytes f publics bytes _ PublicCount params h k = absurd (k h.0)
verdicts_are_one r1cs_bytes f publics bytes v w params h k =
    read_once r1cs_bytes f publics (any_proof_of (params_of f) r1cs_bytes publics bytes) v w params
    h.1 k.1
