-- What is said of the proofs that `prove` makes and `audit` accepts.
use Rattle.std.specs.Prelude.{◌≡◌, ◌↔◌, ℕ, List, Some, Ok}
use Rattle.out_io.specs.Contents.{Contents}
use Rattle.lig_layout.specs.Laws.{publics_of}
use Rattle.lig_proof.specs.Acceptance.{IsVerdict}
use Rattle.lig_proof.specs.declared.verdict.Verdict.{Verdict}
use Rattle.lig_proof.specs.declared.verdict.Verdict.TheVariants.{Accepted}
use Rattle.circom_files.specs.Proving.{IsAudited, offer_of, witness_of}
use Rattle.circom_files.specs.Reply.{Reply}
use Rattle.circom_files.specs.declared.outcome.Offer.{Offer}
use Rattle.circom_files.specs.declared.outcome.Witness.{Witness}

-- what the files under these names offer is accepted
pub record IsAccepted (files : Contents) (r1cs publics proof : List ℕ) : Type 0 where
  pub offer : Offer
  pub read : offer_of files r1cs publics proof ≡ Ok offer
  pub accepted : IsAudited offer Accepted

-- the one verdict on these bytes as a proof for the witness's file, and the public values among its
-- values, is that they are accepted
abbrev pub IsAcceptedFor : Witness → List ℕ → Type 0
IsAcceptedFor w proof = (verdict : Verdict)
    → IsVerdict w.bytes w.file (publics_of w.file w.values) proof verdict ↔ (verdict ≡ Accepted)

-- that holds of the witness in the files under these names
pub record IsProofOf (files : Contents) (r1cs wtns proof : List ℕ) : Type 0 where
  pub witness : Witness
  pub read : witness_of files r1cs wtns ≡ Ok witness
  pub accepted : IsAcceptedFor witness proof

-- the reply writes such bytes under the name
pub record WritesProof (files : Contents) (r1cs wtns out : List ℕ) (r : Reply) : Type 0 where
  pub bytes : List ℕ
  pub file : r.file ≡ Some (record { name = out; bytes = bytes })
  pub proof : IsProofOf files r1cs wtns bytes
