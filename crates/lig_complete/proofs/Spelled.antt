-- What is made is a proof, in either version, and so its spelling is read.
use Rattle.std.proofs.Common.{◌≡◌, ℕ, ◌+◌, ◌*◌, ◌<◌, List, [], Ok, length, get_or, map, refl, sym}
use Rattle.std.proofs.Common.{subst, ◌∙◌, arith}
use Rattle.std.proofs.lemmas.List.{length-map}
use Rattle.lig_layout.specs.declared.params.Params.{Params}
use Rattle.lig_layout.specs.Sizes.{IsParams}
use Rattle.lig_merkle.specs.Merkle.{path_at}
use Rattle.lig_merkle.specs.Shared.{AreOpened, shared_nodes}
use Rattle.lig_merkle.proofs.Leading.{length-shared_nodes}
use Rattle.lig_merkle.proofs.Paths.{length-path_at}
use Rattle.lig_proof.specs.ProofBytes.{opened_count}
use Rattle.lig_proof.specs.declared.proof.Proof.{Proof}
use Rattle.lig_proof.specs.declared.shared_proof.Proof2.{Proof2}
use Rattle.lig_proof.specs.declared.shared_proof.AnyProof.TheVariants.{First, Second}
use Rattle.lig_proof.specs.ProofBytes.{AreValues, IsHash, IsPath, IsProof, proof_bytes}
use Rattle.lig_proof.specs.Columns.{Encoded, column_at, leaves, commitment}
use Rattle.lig_proof.specs.SharedProof.{IsProof2, opened_for, proof2_bytes}
use Rattle.lig_proof.specs.SharedReading.{any_proof_of}
use Rattle.lig_proof.proofs.Whole.{proof_again}
use Rattle.lig_proof.proofs.SharedWhole.{proof2_again}
use Rattle.lig_complete.proofs.Columns.{column_values}
use Rattle.lig_complete.proofs.Hashes.{all_made, is_digest, root_is_hash, path_hashes, nodes_hashes}
use Rattle.lig_complete.proofs.Opened.{leaf_at}

-- the proof of version 1, and that of version 2
abbrev pub first_made : Params → Encoded → List ℕ → List ℕ → Proof
first_made p e polys drawn = record {
  root = commitment p e;
  polys = polys;
  columns = map (column_at p e) drawn;
  paths = map (path_at p.depth (leaves p e)) drawn;
}

abbrev pub second_made : Params → Encoded → List ℕ → List ℕ → Proof2
second_made p e polys opened = record {
  root = commitment p e;
  polys = polys;
  columns = map (column_at p e) opened;
  nodes = shared_nodes p.depth (λ i. get_or (leaves p e) i []) opened;
}

module _ (p : Params) (e : Encoded) (h : IsParams p) where
  leaf_is_hash : (i : ℕ) → i < 8 * p.l → IsHash (get_or (leaves p e) i [])
  leaf_is_hash i low = subst IsHash (sym (leaf_at p e h i low)) (is_digest _)

  pub root_fits : IsHash (commitment p e)
  root_fits =
      let depth = h.depth in root_is_hash p.depth (leaves p e) (λ k l. leaf_is_hash k (omega arith))

  path_fits : (i : ℕ) → IsPath p.depth (path_at p.depth (leaves p e) i)
  path_fits i =
      let depth = h.depth in
      record {
        count = length-path_at p.depth (leaves p e) i;
        each = path_hashes p.depth (leaves p e) i (λ k l. leaf_is_hash k (omega arith));
      }

  pub first_fits : (polys drawn : List ℕ) → AreValues (18 * p.l) polys → length drawn ≡ opened_count
      → IsProof p (first_made p e polys drawn)
  first_fits polys drawn values count = record {
    root = root_fits;
    polys = values;
    opened = length-map drawn (column_at p e) ∙ count;
    columns = all_made (AreValues (p.rows + 6)) (column_at p e) drawn (column_values p e);
    paths_opened = length-map drawn (path_at p.depth (leaves p e)) ∙ count;
    paths = all_made (IsPath p.depth) (path_at p.depth (leaves p e)) drawn path_fits;
  }

  pub second_fits : (polys opened : List ℕ) → AreValues (18 * p.l) polys → AreOpened p.depth opened
      → IsProof2 p opened (second_made p e polys opened)
  second_fits polys opened values are =
      let leaf = λ (i : ℕ). get_or (leaves p e) i [] in
      let depth = h.depth in
      record {
        root = root_fits;
        polys = values;
        columns_count = length-map opened (column_at p e);
        columns = all_made (AreValues (p.rows + 6)) (column_at p e) opened (column_values p e);
        nodes_count = length-shared_nodes p.depth leaf opened;
        nodes = nodes_hashes p.depth leaf opened are.within (λ i l. leaf_is_hash i (omega arith));
      }

-- the spelling of a proof of version 1 is read as one
pub first_read : (p : Params) (r1cs_bytes publics : List ℕ) (proof : Proof) → IsProof p proof
    → any_proof_of p r1cs_bytes publics (proof_bytes proof) ≡ Ok (First proof)
unfolding any_proof_of proof_bytes
first_read p r1cs_bytes publics proof fits = rw (proof_again p proof fits) refl

-- and that of one of version 2
pub second_read : (p : Params) (r1cs_bytes publics : List ℕ) (proof : Proof2)
    → IsProof2 p (opened_for p r1cs_bytes publics proof.root proof.polys) proof
    → any_proof_of p r1cs_bytes publics (proof2_bytes proof) ≡ Ok (Second proof)
unfolding any_proof_of proof2_bytes
second_read p r1cs_bytes publics proof fits = rw (proof2_again p r1cs_bytes publics proof fits) refl
