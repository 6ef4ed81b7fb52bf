-- What a prover makes of a relation, the values of its vectors and a seed.
use Rattle.std.specs.Prelude.{◌≡◌, ℕ, ◌*◌, ◌<◌, List, [], map, slice_index_or}
use Rattle.iden_files.specs.File.{File}
use Rattle.lig_layout.specs.declared.params.Params.{Params}
use Rattle.lig_layout.specs.declared.matrix.Vectors.{Vectors}
use Rattle.lig_layout.specs.Sizes.{params_of, IsParams}
use Rattle.lig_layout.specs.Layout.{message, row_at}
use Rattle.lig_layout.specs.Laws.{publics_of}
use Rattle.lig_layout.specs.System.{combined, left_sides, equation_count}
use Rattle.lig_merkle.specs.Merkle.{path_at, root_at}
use Rattle.lig_merkle.specs.Shared.{shared_nodes}
use Rattle.lig_proof.specs.declared.challenge.Challenges.{Challenges}
use Rattle.lig_proof.specs.declared.version.Version.{Version}
use Rattle.lig_proof.specs.declared.version.Version.TheVariants.{One, Two}
use Rattle.lig_proof.specs.ProofBytes.{proof_bytes}
use Rattle.lig_proof.specs.SharedProof.{opened_once, proof2_bytes}
use Rattle.lig_proof.specs.Transcript.{first_key, challenges_of, queries}
use Rattle.lig_proof.specs.Encoding.{IsMaskedRow, InterpolateRows}
use Rattle.lig_proof.specs.Masks.{row_mask, proximity_mask, linear_mask, product_mask}
use Rattle.lig_proof.specs.Columns.{Encoded, column_at, leaves, commitment}
use Rattle.lig_proof.specs.Sent.{r_numbers, in_order, sent_polynomials}

-- the encoded matrix of the vectors, with the masks that the seed gives
pub record IsEncoded (p : Params) (v : Vectors) (seed : List ℕ) (e : Encoded) : Type 0 where
  pub row : (k : ℕ) → k < p.rows
      → IsMaskedRow p (row_at p (message p v) k) (row_mask p seed k) (e.row k)
  pub proximity : (t : ℕ) → t < 2 → e.proximity t ≡ proximity_mask p seed t
  pub linear : (t : ℕ) → t < 2 → e.linear t ≡ linear_mask p seed t
  pub product : (t : ℕ) → t < 2 → e.product t ≡ product_mask p seed t

-- the polynomials of the rows of the linear system, combined by the numbers of each repetition
abbrev pub AreSystems : File → Challenges → (ℕ → ℕ → List ℕ) → Type 0
AreSystems f c system = (t : ℕ) → t < 2 → (let p = params_of f in
    let numbers = r_numbers (equation_count f) c t in
    InterpolateRows p (combined (p.rows * p.l) numbers (left_sides p f)) (system t))

-- the first key and the challenges, for these public values and this commitment
abbrev pub challenges_for : List ℕ → File → List ℕ → List ℕ → Challenges
challenges_for r1cs_bytes f publics root =
    challenges_of (params_of f) (equation_count f) (first_key r1cs_bytes publics root)

-- the bytes of a proof, by its columns, the leaves of the tree over them, the coefficients of the
-- six polynomials and the indices that were drawn. Version 1 has each of these columns with its
-- path; version 2 has each once, and the nodes that they share.
abbrev pub proof_spelling : Version → Params → (ℕ → List ℕ) → List (List ℕ) → List ℕ → List ℕ
    → List ℕ
proof_spelling One p column hashes polys drawn = proof_bytes (record {
  root = root_at p.depth hashes;
  polys = polys;
  columns = map column drawn;
  paths = map (path_at p.depth hashes) drawn;
})
proof_spelling Two p column hashes polys drawn =
    let opened = opened_once p drawn in
    proof2_bytes (record {
      root = root_at p.depth hashes;
      polys = polys;
      columns = map column opened;
      nodes = shared_nodes p.depth (λ i. slice_index_or hashes i []) opened;
    })

-- those of the proof for an encoded matrix
abbrev pub bytes_in : Version → Params → Encoded → List ℕ → List ℕ → List ℕ
bytes_in version p e = proof_spelling version p (column_at p e) (leaves p e)

-- the bytes of a proof, as a prover makes them
pub record AreMade (version : Version) (r1cs_bytes : List ℕ) (f : File) (v : Vectors)
    (seed bytes : List ℕ) : Type 0 where
  pub encoded : Encoded
  pub challenges : Challenges
  pub system : ℕ → ℕ → List ℕ
  pub rows : IsEncoded (params_of f) v seed encoded
  pub challenges_drawn : (let root = commitment (params_of f) encoded in
      challenges ≡ challenges_for r1cs_bytes f (publics_of f v.w) root)
  pub systems : AreSystems f challenges system
  pub spelled : (let p = params_of f in
      let polys = in_order (sent_polynomials p challenges encoded system) in
      bytes ≡ bytes_in version p encoded polys (queries p challenges.first polys))

-- in each version there is one such proof
abbrev pub ProofsAreOne : Type 0
ProofsAreOne = (version : Version) (r1cs_bytes : List ℕ) (f : File) (v : Vectors)
    (seed xs ys : List ℕ) → IsParams (params_of f) → AreMade version r1cs_bytes f v seed xs
    → AreMade version r1cs_bytes f v seed ys → xs ≡ ys
