-- Many leaves under one root: the nodes that lead from them to the root, each once.
use Rattle.std.specs.Prelude.{◌≡◌, ℕ, zero, suc, ◌+◌, ◌*◌, ◌/◌, ◌^◌, ◌<◌, ◌==◌, Bool, not}
use Rattle.std.specs.Prelude.{if◌then◌else◌, List, [], ◌∷◌, ◌++◌, length, take, drop, map, filter}
use Rattle.std.specs.Prelude.{All, slice_index_or}
use Rattle.std.specs.List.{list_any, dedup}
use Rattle.std.specs.List.Sorted.{IsStrictlyIncreasing}
use Rattle.lig_merkle.specs.Merkle.{node_hash, root_at}
use Rattle.lig_merkle.specs.Nodes.{sibling_of}

-- leaves of a tree of this depth, by their indices: at least one, and rising
pub record AreOpened (depth : ℕ) (opened : List ℕ) : Type 0 where
  pub some : 0 < length opened
  pub rising : IsStrictlyIncreasing opened
  pub within : All (λ place. place < 2 ^ depth) opened

abbrev pub is_known : List ℕ → ℕ → Bool
is_known known place = list_any (λ k. k == place) known

-- the siblings of a level's known places that aren't known themselves
abbrev pub missing : List ℕ → List ℕ
missing known = filter (λ place. not (is_known known place)) (map sibling_of known)

-- the places above rising ones, each once
abbrev pub parents : List ℕ → List ℕ
parents known = dedup (λ a b. a == b) (map (λ place. place / 2) known)

-- the hashes of a level, by their places, from those of the level below
abbrev pub level_over : (ℕ → List ℕ) → ℕ → List ℕ
level_over level place = node_hash (level (2 * place)) (level (2 * place + 1))

-- the shared nodes: of each level below the root the missing ones, from the leaves up. What is
-- above a known place is known too.
abbrev pub shared_nodes : ℕ → (ℕ → List ℕ) → List ℕ → List (List ℕ)
shared_nodes zero level known = []
shared_nodes (suc depth) level known =
    map level (missing known) ++ shared_nodes depth (level_over level) (parents known)

-- how many there are
abbrev pub shared_count : ℕ → List ℕ → ℕ
shared_count zero known = 0
shared_count (suc depth) known = length (missing known) + shared_count depth (parents known)

-- the hash at a place, where the hashes stand as their places do
abbrev pub hash_at : List ℕ → List (List ℕ) → ℕ → List ℕ
hash_at [] hashes place = []
hash_at (k ∷ places) [] place = []
hash_at (k ∷ places) (hash ∷ hashes) place =
    if k == place then hash else hash_at places hashes place

-- the hashes of the places above, from those of the known places and of the missing ones
abbrev pub parent_hashes : List ℕ → List (List ℕ) → List (List ℕ) → List (List ℕ)
parent_hashes known hashes nodes =
    let level = hash_at (known ++ missing known) (hashes ++ nodes) in
    map (level_over level) (parents known)

-- the root to which known places' hashes lead with these nodes, of which each level takes as many
-- as it misses
abbrev pub root_of_many : ℕ → List ℕ → List (List ℕ) → List (List ℕ) → List ℕ
root_of_many zero known hashes nodes = slice_index_or hashes 0 []
root_of_many (suc depth) known hashes nodes =
    let count = length (missing known) in
    let above = parent_hashes known hashes (take count nodes) in
    root_of_many depth (parents known) above (drop count nodes)

-- the opened leaves of a tree, with its shared nodes, lead to its root
abbrev pub SharedNodesLeadToRoot : Type 0
SharedNodesLeadToRoot =
    (depth : ℕ) (hashes : List (List ℕ)) (opened : List ℕ) → AreOpened depth opened
    → let leaf = λ (i : ℕ). slice_index_or hashes i [] in
    let nodes = shared_nodes depth leaf opened in
    root_of_many depth opened (map leaf opened) nodes ≡ root_at depth hashes
