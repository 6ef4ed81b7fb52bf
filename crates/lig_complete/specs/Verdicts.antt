-- The verdict on a proof that is made, honestly, of any vectors.
use Rattle.std.specs.Prelude.{◌≡◌, ◌↔◌, ℕ, ◌+◌, ◌-◌, ◌*◌, ◌%◌, ◌<◌, List, All, length, Ok}
use Rattle.std.specs.Prelude.{slice_index}
use Rattle.gold_field.specs.declared.gold.TheConstants.{P}
use Rattle.gold_ntt.specs.Polynomial.{sum_to}
use Rattle.iden_files.specs.File.{File, IsFile, InLimits}
use Rattle.lig_layout.specs.declared.matrix.Vectors.{Vectors}
use Rattle.lig_layout.specs.Sizes.{params_of}
use Rattle.lig_layout.specs.Layout.{message}
use Rattle.lig_layout.specs.System.{equation_count, left_sides, right_sides, public_count}
use Rattle.lig_layout.specs.Laws.{inner_product, combined_values, publics_of}
use Rattle.lig_layout.specs.Solutions.{AreVectors, AreProducts, SolvesSystem}
use Rattle.lig_proof.specs.declared.challenge.Challenges.{Challenges}
use Rattle.lig_proof.specs.declared.shared_proof.AnyProof.{AnyProof}
use Rattle.lig_proof.specs.declared.version.Version.{Version}
use Rattle.lig_proof.specs.declared.verdict.Verdict.{Verdict}
use Rattle.lig_proof.specs.declared.verdict.Verdict.TheVariants as verdicts
use Rattle.lig_proof.specs.Transcript.{queries}
use Rattle.lig_proof.specs.Sent.{rho, r_numbers}
use Rattle.lig_proof.specs.SharedReading.{any_proof_of}
use Rattle.lig_proof.specs.Proving.{AreMade, AreSystems, challenges_for}
use Rattle.lig_proof.specs.Audit.{Proximity, LinearColumn, QuadZero, QuadColumn}
use Rattle.lig_proof.specs.Acceptance.{IsVerdict, audit_of, root_in, polys_in, indices_in, ways_in}
use Rattle.lig_proof.specs.Acceptance.{Leads}
use Rattle.lig_complete.specs.Offers.{Twice}

-- the left sides of the linear system, each times its number, are the right sides, each times its
-- number
abbrev pub SystemPasses : File → Vectors → Challenges → Type 0
SystemPasses f v c = Twice (λ t.
    let p = params_of f in
    let r = r_numbers (equation_count f) c t in
    combined_values (message p v) r (left_sides p f) % P
    ≡ inner_product r (right_sides f (publics_of f v.w)) % P)

-- the rows of x * y - z, each times its number, sum to 0 at every place of a row
abbrev pub ProductsPass : File → Vectors → Challenges → Type 0
ProductsPass f v c = Twice (λ t. (j : ℕ) → j < (params_of f).l
    → (let p = params_of f in
    let x = λ (k : ℕ). slice_index v.x (k * p.l + j) in
    let y = λ (k : ℕ). slice_index v.y (k * p.l + j) in
    let z = λ (k : ℕ). slice_index v.z (k * p.l + j) in
    sum_to p.constraint_rows (λ k. rho p c t k * (x k * y k + (P - z k))) % P ≡ 0))

-- the verdict where nothing else is wrong
abbrev pub Outcome : Type 0 → Type 0 → Verdict → Type 0
Outcome System Products verdicts.Accepted = System × Products
Outcome System Products verdicts.LinearSum = ¬ System
Outcome System Products verdicts.QuadZero = System × (¬ Products)
Outcome System Products _ = ⊥

-- what is made of any vectors is accepted exactly where both combinations come out, for the
-- challenges that were drawn, and else refused for the first that doesn't
abbrev pub AnyVectorsHaveVerdicts : Type 0
AnyVectorsHaveVerdicts = (version : Version) (r1cs_bytes : List ℕ) (f : File) (v : Vectors)
    (seed bytes : List ℕ) (verdict : Verdict) → IsFile f → InLimits f → AreVectors f v
    → (made : AreMade version r1cs_bytes f v seed bytes)
    → (IsVerdict r1cs_bytes f (publics_of f v.w) bytes verdict
    ↔ Outcome (SystemPasses f v made.challenges) (ProductsPass f v made.challenges) verdict)

-- what is accepted by an auditor who makes all tests but that of the sum over the message points
pub record IsAcceptedWithoutSum (r1cs_bytes : List ℕ) (f : File) (publics bytes : List ℕ) : Type 0
  where
    pub count : length publics ≡ public_count f
    pub proof : AnyProof
    pub read : any_proof_of (params_of f) r1cs_bytes publics bytes ≡ Ok proof
    pub system : ℕ → ℕ → List ℕ
    pub systems : AreSystems f (challenges_for r1cs_bytes f publics (root_in proof)) system
    pub leads : (let p = params_of f in
        let c = challenges_for r1cs_bytes f publics (root_in proof) in
        let indices = indices_in p (queries p c.first (polys_in proof)) proof in
        (q : ℕ) → q < ways_in proof → Leads p indices proof q)
    pub tests : (let p = params_of f in
        let c = challenges_for r1cs_bytes f publics (root_in proof) in
        let indices = indices_in p (queries p c.first (polys_in proof)) proof in
        let a = audit_of f publics c system indices proof in
        Proximity a × LinearColumn a × QuadZero a × QuadColumn a)

-- such an auditor accepts what is made of any vectors that are products, whether they solve the
-- linear system or not. By the law above it has to be refused wherever the sums differ, which is
-- where the combined system doesn't come out.
abbrev pub SumIsNeeded : Type 0
SumIsNeeded = (version : Version) (r1cs_bytes : List ℕ) (f : File) (v : Vectors)
    (seed bytes : List ℕ) → IsFile f → InLimits f → AreVectors f v → AreProducts v
    → AreMade version r1cs_bytes f v seed bytes
    → IsAcceptedWithoutSum r1cs_bytes f (publics_of f v.w) bytes

-- any vectors have a proof, with every seed
abbrev pub AnyVectorsHaveProofs : Type 0
AnyVectorsHaveProofs = (version : Version) (r1cs_bytes : List ℕ) (f : File) (v : Vectors)
    (seed : List ℕ) → InLimits f → AreVectors f v
    → (bytes : List ℕ) × AreMade version r1cs_bytes f v seed bytes

-- a proof of vectors that don't solve the linear system with these public values, which an auditor
-- who skips the sum accepts
pub record IsFalseProof (version : Version) (r1cs_bytes : List ℕ) (f : File) (publics seed : List ℕ)
    (v : Vectors) (bytes : List ℕ) : Type 0 where
  pub vectors : AreVectors f v
  pub unsolved : ¬ SolvesSystem f publics v
  pub made : AreMade version r1cs_bytes f v seed bytes
  pub accepted : IsAcceptedWithoutSum r1cs_bytes f publics bytes

-- there is one for every file and all public values, also where no values satisfy the file
abbrev pub FalseProofsExist : Type 0
FalseProofsExist = (version : Version) (r1cs_bytes : List ℕ) (f : File) (publics seed : List ℕ)
    → IsFile f → InLimits f → length publics ≡ public_count f → All (λ value. value < P) publics
    → (v : Vectors) × (bytes : List ℕ) × IsFalseProof version r1cs_bytes f publics seed v bytes
