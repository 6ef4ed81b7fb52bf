-- Proofs, and the one spelling of each, version 1.
use Rattle.std.specs.Prelude.{◌≡◌, ℕ, ◌+◌, ◌*◌, ◌<◌, List, [], ◌∷◌, ◌++◌, length, codes}
use Rattle.std.specs.List.{flat_map, AllByRecursion}
use Rattle.std.specs.Int.{w32, to_le_bytes}
use Rattle.gold_field.specs.declared.gold.TheConstants.{P}
use Rattle.lig_layout.specs.declared.params.Params.{Params}
use Rattle.lig_merkle.specs.Merkle.{column_bytes}
use Rattle.lig_proof.specs.declared.proof.Proof.{Proof}

-- how many columns are opened
abbrev pub opened_count : ℕ
opened_count = 96

-- a name and a version
abbrev pub head_bytes : ℕ → List ℕ
head_bytes version = codes "ligg" ++ to_le_bytes w32 version

abbrev pub hashes_bytes : List (List ℕ) → List ℕ
hashes_bytes hashes = flat_map (λ hash. hash) hashes

-- each opened column, with its path behind it
abbrev pub openings_bytes : List (List ℕ) → List (List (List ℕ)) → List ℕ
openings_bytes [] paths = []
openings_bytes (column ∷ columns) [] = []
openings_bytes (column ∷ columns) (path ∷ paths) =
    column_bytes column ++ (hashes_bytes path ++ openings_bytes columns paths)

unfoldable pub proof_bytes : Proof → List ℕ
proof_bytes proof =
    let openings = openings_bytes proof.columns proof.paths in
    head_bytes 1 ++ (proof.root ++ (column_bytes proof.polys ++ openings))

-- 32 bytes
pub record IsHash (hash : List ℕ) : Type 0 where
  pub count : length hash ≡ 32
  pub each : AllByRecursion (λ byte. byte < 256) hash

-- numbers of the field, so many of them
pub record AreValues (n : ℕ) (values : List ℕ) : Type 0 where
  pub count : length values ≡ n
  pub each : AllByRecursion (λ value. value < P) values

pub record IsPath (depth : ℕ) (path : List (List ℕ)) : Type 0 where
  pub count : length path ≡ depth
  pub each : AllByRecursion IsHash path

-- a proof for a matrix of these sizes: 2 * (2 + 3 + 4) * l coefficients of the six polynomials, and
-- columns with a value for each row and each of the six masks of the tests
pub record IsProof (p : Params) (proof : Proof) : Type 0 where
  pub root : IsHash proof.root
  pub polys : AreValues (18 * p.l) proof.polys
  pub opened : length proof.columns ≡ opened_count
  pub columns : AllByRecursion (AreValues (p.rows + 6)) proof.columns
  pub paths_opened : length proof.paths ≡ opened_count
  pub paths : AllByRecursion (IsPath p.depth) proof.paths
