-- How a tree keeps its nodes in one list: the root at 1, the children of i at 2 * i and 2 * i + 1.
use Rattle.std.specs.Prelude.{◌≡◌, ℕ, ◌+◌, ◌-◌, ◌*◌, ◌%◌, ◌^◌, ◌<◌, ◌≤◌, ◌==◌, if◌then◌else◌, List}
use Rattle.std.specs.Prelude.{[], length, drop, slice_index_or}
use Rattle.lig_merkle.specs.Merkle.{node_hash}

-- each place from low up to count is the node over its two children
abbrev pub AreJoinedFrom : ℕ → ℕ → List (List ℕ) → Type 0
AreJoinedFrom low count nodes = (i : ℕ) → low ≤ i → i < count
    → slice_index_or nodes i []
    ≡ node_hash (slice_index_or nodes (2 * i) []) (slice_index_or nodes (2 * i + 1) [])

abbrev pub AreJoined : ℕ → List (List ℕ) → Type 0
AreJoined count nodes = AreJoinedFrom 1 count nodes

-- the places from count on are kept
abbrev pub SameLeaves : ℕ → List (List ℕ) → List (List ℕ) → Type 0
SameLeaves count old new = drop count new ≡ drop count old

-- the place beside a place, under the same node
abbrev pub sibling_of : ℕ → ℕ
sibling_of i = if i % 2 == 0 then i + 1 else i - 1

-- the nodes of a tree of this depth
pub record IsTree (depth : ℕ) (nodes : List (List ℕ)) : Type 0 where
  pub small : depth < 64
  pub count : length nodes ≡ 2 * 2 ^ depth
  pub joined : AreJoined (2 ^ depth) nodes
