-- Proofs of either version.
use Rattle.std.proofs.Common.{◌≡◌, ℕ, ◌<◌, ◌≤◌, ◌==◌, Bool, true, false, List, length, Result, Ok}
use Rattle.std.proofs.Common.{Err, refl, sym, ap, ◌∙◌, ⊎_elim}
use Rattle.std.proofs.lemmas.Bool.{cases_Bool, cases_lt, lt-leb, both_ways}
use Rattle.binary_format.specs.Reading.{Fails, ◌>>=◌}
use Rattle.lig_layout.specs.declared.params.Params.{Params}
use Rattle.lig_proof.specs.declared.fault.ProofFault.{ProofFault}
use Rattle.lig_proof.specs.declared.fault.ProofFault.TheVariants as faults
use Rattle.lig_proof.specs.declared.shared_proof.AnyProof.{AnyProof}
use Rattle.lig_proof.specs.declared.shared_proof.AnyProof.TheVariants.{First, Second}
use Rattle.lig_proof.specs.Reading.{refused, version_at, head_of, proof_of}
use Rattle.lig_proof.specs.SharedReading.{proof2_of, any_proof_of}

first_short : (p : Params) (bytes : List ℕ) → length bytes < 8
    → proof_of p bytes ≡ Err (length bytes)
unfolding proof_of head_of
first_short p bytes h = rw (lt-leb 8 (length bytes) h) refl

second_short : (p : Params) (r1cs_bytes publics bytes : List ℕ) → length bytes < 8
    → proof2_of p r1cs_bytes publics bytes ≡ Err (length bytes)
unfolding proof2_of head_of
second_short p r1cs_bytes publics bytes h = rw (lt-leb 8 (length bytes) h) refl

pub fails_on : {A B : Type 0} (fault : ProofFault) (r : Result A ℕ) (f : A → Result B ℕ)
    → Fails (refused fault) r → Fails (refused fault) (r >>= f)
fails_on (faults.Malformed offset) r f e = ap (λ x. x >>= f) e
fails_on faults.OutOfMemory r f e = tt

pub fails_as : {A : Type 0} (fault : ProofFault) (x y : Result A ℕ) → x ≡ y
    → Fails (refused fault) y → Fails (refused fault) x
fails_as (faults.Malformed offset) x y same h = same ∙ h
fails_as faults.OutOfMemory x y same h = tt

module _ (p : Params) (r1cs_bytes publics bytes : List ℕ) where
  abbrev pub second : Result AnyProof ℕ
  second = proof2_of p r1cs_bytes publics bytes >>= λ proof. Ok (Second proof)

  abbrev pub first : Result AnyProof ℕ
  first = proof_of p bytes >>= λ proof. Ok (First proof)

  pub as_second : (version_at bytes == 2) ≡ true → any_proof_of p r1cs_bytes publics bytes ≡ second
  unfolding any_proof_of
  as_second e = rw e refl

  pub as_first : (version_at bytes == 2) ≡ false → any_proof_of p r1cs_bytes publics bytes ≡ first
  unfolding any_proof_of
  as_first e = rw e refl

  -- bytes without a version are none of either
  as_none : length bytes < 8 → any_proof_of p r1cs_bytes publics bytes ≡ first
  as_none h =
      let one = first_short p bytes h in
      let two = second_short p r1cs_bytes publics bytes h in
      ⊎_elim
      (λ yes. as_second yes ∙ ap (λ r. r >>= λ proof. Ok (Second proof)) two
      ∙ sym (ap (λ r. r >>= λ proof. Ok (First proof)) one))
      (λ no. as_first no)
      (cases_Bool (version_at bytes == 2))

  module _ (named : Bool) (long : 8 ≤ length bytes → named ≡ (version_at bytes == 2))
      (short : length bytes < 8 → named ≡ false) where
    pub is_second : named ≡ true → any_proof_of p r1cs_bytes publics bytes
        ≡ (proof2_of p r1cs_bytes publics bytes >>= λ proof. Ok (Second proof))
    is_second it_is =
        ⊎_elim (λ few. absurd (both_ways named (short few) it_is))
        (λ many. as_second (sym (long many) ∙ it_is)) (cases_lt (length bytes) 8)

    pub is_first : named ≡ false → any_proof_of p r1cs_bytes publics bytes
        ≡ (proof_of p bytes >>= λ proof. Ok (First proof))
    is_first it_isnt = ⊎_elim (λ few. as_none few) (λ many. as_first (sym (long many) ∙ it_isnt))
        (cases_lt (length bytes) 8)
