-- What a call that proves answers, and what it is given.
use Rattle.std.specs.Prelude.{◌≡◌, ◌⊎◌, ℕ, List, length, Some, None, Result, IfOk, IfErr, Vec}
use Rattle.std.specs.declared.alloc.Global.{Global}
use Rattle.iden_files.specs.File.{File}
use Rattle.lig_layout.specs.Layout.{vectors_of}
use Rattle.lig_layout.specs.declared.matrix.Vectors.{Vectors}
use Rattle.lig_proof.specs.declared.version.Version.{Version}
use Rattle.lig_proof.specs.Proving.{AreMade}
use Rattle.lig_prover.specs.Refusing.{refusal_of}
use Rattle.lig_prover.specs.declared.fault.ProveFault.{ProveFault}
use Rattle.lig_prover.specs.declared.fault.ProveFault.TheVariants.{OutOfMemory}

-- The values satisfy the file where there is a proof, and it is the definition's. What is refused
-- is the first refusal, but for want of memory.
pub record IsProofOrRefusal (version : Version) (r1cs_bytes : List ℕ) (f : File) (w seed : List ℕ)
    (result : Result (Vec ℕ Global) ProveFault) : Type 0 where
  pub satisfied : IfOk result (λ v. refusal_of f w ≡ None)
  pub made : IfOk result (λ v. AreMade version r1cs_bytes f (vectors_of f w) seed v.items)
  pub refused : IfErr result
      (λ fault. (fault ≡ OutOfMemory) ⊎ (refusal_of f w ≡ Some fault))

-- as many values as the file has wires and constraints
pub record AreOf (f : File) (v : Vectors) : Type 0 where
  pub w : length v.w ≡ f.wires
  pub x : length v.x ≡ length f.constraints
  pub y : length v.y ≡ length f.constraints
  pub z : length v.z ≡ length f.constraints
