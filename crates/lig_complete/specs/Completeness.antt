-- Proofs that are made of values which satisfy the file are accepted.
use Rattle.std.specs.Prelude.{◌≡◌, ◌↔◌, ℕ, ◌<◌, List, All, Result, IfOk, Vec}
use Rattle.std.specs.declared.alloc.Global.{Global}
use Rattle.gold_field.specs.declared.gold.TheConstants.{P}
use Rattle.iden_files.specs.File.{File, IsFile, InLimits}
use Rattle.lig_layout.specs.Layout.{vectors_of}
pub use Rattle.lig_layout.specs.Solutions.{IsWitness}
use Rattle.lig_layout.specs.Laws.{publics_of}
use Rattle.lig_proof.specs.declared.version.Version.{Version}
use Rattle.lig_proof.specs.declared.verdict.Verdict.{Verdict}
use Rattle.lig_proof.specs.declared.verdict.Verdict.TheVariants.{Accepted}
use Rattle.lig_proof.specs.Proving.{AreMade}
use Rattle.lig_proof.specs.Acceptance.{IsVerdict}
use Rattle.lig_prover.specs.Proves.{IsProofOrRefusal}
use Rattle.lig_prover.specs.declared.fault.ProveFault.{ProveFault}

-- the proof made of values that satisfy the file is accepted, for the same file and its public
-- values among them
abbrev pub MadeProofsAreAccepted : Type 0
MadeProofsAreAccepted = (version : Version) (r1cs_bytes : List ℕ) (f : File)
    (w seed bytes : List ℕ) → IsFile f → InLimits f → IsWitness f w
    → AreMade version r1cs_bytes f (vectors_of f w) seed bytes
    → IsVerdict r1cs_bytes f (publics_of f w) bytes Accepted

-- and has no other verdict
abbrev pub NoneIsRefused : Type 0
NoneIsRefused = (version : Version) (r1cs_bytes : List ℕ) (f : File)
    (w seed bytes : List ℕ) (verdict : Verdict) → IsFile f → InLimits f → IsWitness f w
    → AreMade version r1cs_bytes f (vectors_of f w) seed bytes
    → IsVerdict r1cs_bytes f (publics_of f w) bytes verdict → verdict ≡ Accepted

-- what `prove` and `prove2` answer is accepted, and has no other verdict
abbrev pub AnswersAreAccepted : Type 0
AnswersAreAccepted = (version : Version) (r1cs_bytes : List ℕ) (f : File) (w seed : List ℕ)
    (result : Result (Vec ℕ Global) ProveFault) → IsFile f → InLimits f
    → All (λ value. value < P) w → IsProofOrRefusal version r1cs_bytes f w seed result
    → IfOk result (λ v. (verdict : Verdict)
    → IsVerdict r1cs_bytes f (publics_of f w) v.items verdict ↔ (verdict ≡ Accepted))
