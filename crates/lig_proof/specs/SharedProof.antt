-- Proofs of version 2, and the one spelling of each.
use Rattle.std.specs.Prelude.{◌≡◌, ℕ, ◌+◌, ◌*◌, List, ◌++◌, length, filter}
use Rattle.std.specs.List.{AllByRecursion, flat_map, range_with_len}
use Rattle.lig_layout.specs.declared.params.Params.{Params}
use Rattle.lig_merkle.specs.Merkle.{column_bytes}
use Rattle.lig_merkle.specs.Shared.{is_known, shared_count}
use Rattle.lig_proof.specs.declared.shared_proof.Proof2.{Proof2}
use Rattle.lig_proof.specs.ProofBytes.{head_bytes, hashes_bytes, AreValues, IsHash}
use Rattle.lig_proof.specs.Transcript.{first_key, queries}

-- the columns that were drawn, in order and each once
abbrev pub opened_once : Params → List ℕ → List ℕ
opened_once p drawn = filter (is_known drawn) (range_with_len 0 (8 * p.l))

-- those of a proof, by what stands before them
abbrev pub opened_for : Params → List ℕ → List ℕ → List ℕ → List ℕ → List ℕ
opened_for p r1cs_bytes publics root polys =
    opened_once p (queries p (first_key r1cs_bytes publics root) polys)

unfoldable pub proof2_bytes : Proof2 → List ℕ
proof2_bytes proof =
    let columns = flat_map column_bytes proof.columns in
    head_bytes 2 ++ (proof.root ++ (column_bytes proof.polys
    ++ (columns ++ hashes_bytes proof.nodes)))

-- a proof for a matrix of these sizes that opens these columns, as many coefficients and values as
-- in one of version 1
pub record IsProof2 (p : Params) (opened : List ℕ) (proof : Proof2) : Type 0 where
  pub root : IsHash proof.root
  pub polys : AreValues (18 * p.l) proof.polys
  pub columns_count : length proof.columns ≡ length opened
  pub columns : AllByRecursion (AreValues (p.rows + 6)) proof.columns
  pub nodes_count : length proof.nodes ≡ shared_count p.depth opened
  pub nodes : AllByRecursion IsHash proof.nodes
