-- The proof of version 2 that bytes spell, or the place of the first byte that is wrong; and the
-- same for a proof of either version. Which columns are due follows from what stands before them:
-- the relation, the public values, the root and the polynomials give their indices.
use Rattle.std.specs.Prelude.{◌==◌, ℕ, ◌+◌, ◌-◌, ◌*◌, List, length, Result, Ok, if◌then◌else◌}
use Rattle.binary_format.specs.Reading.{◌>>=◌, required, repeated}
use Rattle.lig_layout.specs.declared.params.Params.{Params}
use Rattle.lig_merkle.specs.Shared.{shared_count}
use Rattle.lig_proof.specs.declared.shared_proof.Proof2.{Proof2}
use Rattle.lig_proof.specs.declared.shared_proof.AnyProof.{AnyProof}
use Rattle.lig_proof.specs.declared.shared_proof.AnyProof.TheVariants.{First, Second}
use Rattle.lig_proof.specs.Reading.{version_at, head_of, next_value, next_hash, proof_of}
use Rattle.lig_proof.specs.ProofBytes.{IsProof}
use Rattle.lig_proof.specs.SharedProof.{IsProof2, opened_for}

-- What stands behind the polynomials: the columns that are due and the shared nodes, up to the end.
abbrev pub rest_of : Params → ℕ → List ℕ → List ℕ → List ℕ → List ℕ → Result Proof2 ℕ
rest_of p end opened root polys bytes = do
  columns ← repeated (repeated (next_value end) (p.rows + 6)) (length opened) bytes
  nodes ← repeated (next_hash end) (shared_count p.depth opened) columns.1
  whole ← required (length nodes.1 == 0) (end - length nodes.1)
  Ok (record { root = root; polys = polys; columns = columns.0; nodes = nodes.0 })

-- All of the bytes.
unfoldable pub proof2_of : Params → List ℕ → List ℕ → List ℕ → Result Proof2 ℕ
proof2_of p r1cs_bytes publics bytes = do
  let end = length bytes
  head ← head_of 2 bytes
  root ← next_hash end head.1
  polys ← repeated (next_value end) (18 * p.l) root.1
  let opened = opened_for p r1cs_bytes publics root.0 polys.0
  rest_of p end opened root.0 polys.0 polys.1

-- A proof of version 2 where the bytes say so, else one of version 1.
unfoldable pub any_proof_of : Params → List ℕ → List ℕ → List ℕ → Result AnyProof ℕ
any_proof_of p r1cs_bytes publics bytes =
    if version_at bytes == 2
    then (proof2_of p r1cs_bytes publics bytes >>= λ proof. Ok (Second proof))
    else (proof_of p bytes >>= λ proof. Ok (First proof))

-- a proof of either version, for a matrix of these sizes, that opens the columns that are due
abbrev pub IsAny : Params → List ℕ → List ℕ → AnyProof → Type 0
IsAny p r1cs_bytes publics (First proof) = IsProof p proof
IsAny p r1cs_bytes publics (Second proof) =
    IsProof2 p (opened_for p r1cs_bytes publics proof.root proof.polys) proof
