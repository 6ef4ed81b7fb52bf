-- Merkle trees of SHA-256. A hash is a list of 32 bytes.
use Rattle.std.specs.Prelude.{◌≡◌, ℕ, zero, suc, ◌-◌, ◌/◌, ◌%◌, ◌^◌, ◌<◌, ◌==◌, nat_lt}
use Rattle.std.specs.Prelude.{if◌then◌else◌, List, [], ◌∷◌, ◌++◌, take, drop, slice_index_or}
use Rattle.std.specs.List.{flat_map}
use Rattle.std.specs.Int.{w64, to_le_bytes}
use Rattle.sha2.specs.Sha256.{sha256}

-- the values of a column, 8 bytes each, low byte first
abbrev pub column_bytes : List ℕ → List ℕ
column_bytes column = flat_map (to_le_bytes w64) column

-- what is hashed for the leaf that holds a column, and for the node over two children
abbrev pub leaf_message : List ℕ → List ℕ
leaf_message column = 0 ∷ column_bytes column

abbrev pub node_message : List ℕ → List ℕ → List ℕ
node_message left right = 1 ∷ (left ++ right)

abbrev pub leaf_hash : List ℕ → List ℕ
leaf_hash column = sha256 (leaf_message column)

abbrev pub node_hash : List ℕ → List ℕ → List ℕ
node_hash left right = sha256 (node_message left right)

-- the leaves of a tree: 2 ^ depth hashes
pub record Leaves : Type 0 where
  pub depth : ℕ
  pub hashes : List (List ℕ)

-- the root over 2 ^ depth leaves: the one leaf itself, or the node over the roots of the two halves
abbrev pub root_at : ℕ → List (List ℕ) → List ℕ
root_at zero hashes = slice_index_or hashes 0 []
root_at (suc depth) hashes =
    node_hash (root_at depth (take (2 ^ depth) hashes)) (root_at depth (drop (2 ^ depth) hashes))

-- the siblings on the way from a leaf to the root, from the leaf up: its path in its half, and then
-- the root of the other half
abbrev pub path_at : ℕ → List (List ℕ) → ℕ → List (List ℕ)
path_at zero hashes index = []
path_at (suc depth) hashes index =
    if nat_lt index (2 ^ depth)
    then path_at depth (take (2 ^ depth) hashes) index ++ root_at depth (drop (2 ^ depth) hashes)
    ∷ []
    else (path_at depth (drop (2 ^ depth) hashes) (index - 2 ^ depth)
    ++ root_at depth (take (2 ^ depth) hashes) ∷ [])

-- where a path leads from a hash: the index's lowest bit is the side on which the hash stands, 0
-- for the left one, and its other bits are the sides further up
abbrev pub root_of : List ℕ → ℕ → List (List ℕ) → List ℕ
root_of hash index [] = hash
root_of hash index (sibling ∷ path) =
    root_of (if index % 2 == 0 then node_hash hash sibling else node_hash sibling hash)
    (index / 2) path

-- a leaf, its index and its path lead to the root
abbrev pub PathLeadsToRoot : Type 0
PathLeadsToRoot = (depth index : ℕ) (hashes : List (List ℕ)) → index < 2 ^ depth
    → root_of (slice_index_or hashes index []) index (path_at depth hashes index)
    ≡ root_at depth hashes
