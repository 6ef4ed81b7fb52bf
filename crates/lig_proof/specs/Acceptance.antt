-- The verdict on bytes that are offered as a proof.
use Rattle.std.specs.Prelude.{◌≡◌, ◌≢◌, ℕ, ◌<◌, List, [], length, map, slice_index, slice_index_or}
use Rattle.std.specs.Prelude.{Result, Ok, Err}
use Rattle.iden_files.specs.File.{File}
use Rattle.lig_layout.specs.declared.params.Params.{Params}
use Rattle.lig_layout.specs.Sizes.{params_of, IsParams}
use Rattle.lig_layout.specs.System.{public_count, right_sides}
use Rattle.lig_merkle.specs.Merkle.{leaf_hash, root_of}
use Rattle.lig_merkle.specs.Shared.{root_of_many}
use Rattle.lig_proof.specs.declared.challenge.Challenges.{Challenges}
use Rattle.lig_proof.specs.declared.shared_proof.AnyProof.{AnyProof}
use Rattle.lig_proof.specs.declared.shared_proof.AnyProof.TheVariants.{First, Second}
use Rattle.lig_proof.specs.declared.verdict.Verdict.{Verdict}
use Rattle.lig_proof.specs.declared.verdict.Verdict.TheVariants as verdicts
use Rattle.lig_proof.specs.Transcript.{queries}
use Rattle.lig_proof.specs.SharedProof.{opened_once}
use Rattle.lig_proof.specs.SharedReading.{any_proof_of}
use Rattle.lig_proof.specs.Sent.{polynomials_of}
use Rattle.lig_proof.specs.Proving.{AreSystems, challenges_for}
use Rattle.lig_proof.specs.Audit.{Audit, IsTested}

-- what a proof of either version says
abbrev pub root_in : AnyProof → List ℕ
root_in (First proof) = proof.root
root_in (Second proof) = proof.root

abbrev pub polys_in : AnyProof → List ℕ
polys_in (First proof) = proof.polys
polys_in (Second proof) = proof.polys

abbrev pub columns_in : AnyProof → List (List ℕ)
columns_in (First proof) = proof.columns
columns_in (Second proof) = proof.columns

-- the indices of its columns, where these were drawn
abbrev pub indices_in : Params → List ℕ → AnyProof → List ℕ
indices_in p drawn (First proof) = drawn
indices_in p drawn (Second proof) = opened_once p drawn

-- how many ways there are to the root: one for each column, or one for all
abbrev pub ways_in : AnyProof → ℕ
ways_in (First proof) = length proof.columns
ways_in (Second proof) = 1

-- column q and its path lead to the root; or all columns do, with the shared nodes
abbrev pub Leads : Params → List ℕ → AnyProof → ℕ → Type 0
Leads p indices (First proof) q =
    root_of (leaf_hash (slice_index_or proof.columns q [])) (slice_index indices q)
    (slice_index_or proof.paths q []) ≡ proof.root
Leads p indices (Second proof) q =
    root_of_many p.depth indices (map leaf_hash proof.columns) proof.nodes ≡ proof.root

-- the tests of a proof whose columns lead to the root
abbrev pub audit_of : File → List ℕ → Challenges → (ℕ → ℕ → List ℕ) → List ℕ → AnyProof → Audit
audit_of f publics c system indices proof = record {
  params = params_of f;
  challenges = c;
  right_sides = right_sides f publics;
  system = system;
  sent = polynomials_of (params_of f) (polys_in proof);
  opened = indices;
  columns = columns_in proof;
}

-- of n ways the first that doesn't lead to the root, else what the tests say
abbrev pub IsFirstFailure : ℕ → (ℕ → Type 0) → Type 0 → Verdict → Type 0
IsFirstFailure n LeadsAt Tested (verdicts.BadPath opened) =
    (opened < n) × ((q : ℕ) → q < opened → LeadsAt q) × (¬ LeadsAt opened)
IsFirstFailure n LeadsAt Tested _ = ((q : ℕ) → q < n → LeadsAt q) × Tested

-- the verdict on a proof
abbrev pub IsProofVerdict : List ℕ → File → List ℕ → AnyProof → Verdict → Type 0
IsProofVerdict r1cs_bytes f publics proof verdict =
    let p = params_of f in
    let c = challenges_for r1cs_bytes f publics (root_in proof) in
    let indices = indices_in p (queries p c.first (polys_in proof)) proof in
    let audit = λ (system : ℕ → ℕ → List ℕ). audit_of f publics c system indices proof in
    IsFirstFailure (ways_in proof) (Leads p indices proof)
    ((system : ℕ → ℕ → List ℕ) × AreSystems f c system × IsTested (audit system) verdict) verdict

abbrev pub IsReadVerdict : List ℕ → File → List ℕ → Result AnyProof ℕ → Verdict → Type 0
IsReadVerdict r1cs_bytes f publics (Err offset) verdict = verdict ≡ verdicts.Malformed offset
IsReadVerdict r1cs_bytes f publics (Ok proof) verdict =
    IsProofVerdict r1cs_bytes f publics proof verdict

-- the verdict on bytes: that the number of public values is wrong, or that the bytes are no proof,
-- or the verdict on the proof that they spell
abbrev pub IsVerdict : List ℕ → File → List ℕ → List ℕ → Verdict → Type 0
IsVerdict r1cs_bytes f publics bytes verdicts.PublicCount = length publics ≢ public_count f
IsVerdict r1cs_bytes f publics bytes verdict =
    let proof = any_proof_of (params_of f) r1cs_bytes publics bytes in
    (length publics ≡ public_count f) × IsReadVerdict r1cs_bytes f publics proof verdict

-- bytes have one verdict
abbrev pub VerdictsAreOne : Type 0
VerdictsAreOne = (r1cs_bytes : List ℕ) (f : File) (publics bytes : List ℕ) (v w : Verdict)
    → IsParams (params_of f) → IsVerdict r1cs_bytes f publics bytes v
    → IsVerdict r1cs_bytes f publics bytes w → v ≡ w
