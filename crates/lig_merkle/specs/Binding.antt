-- Openings of one root at one place bind: where they differ, they show a collision of SHA-256.
use Rattle.std.specs.Prelude.{◌≡◌, ◌≢◌, ℕ, zero, suc, ◌+◌, ◌*◌, ◌/◌, ◌%◌, ◌^◌, ◌<◌, ◌≤◌, ◌==◌}
use Rattle.std.specs.Prelude.{if◌then◌else◌, List, [], ◌∷◌, ◌++◌, All, length, map, take, drop}
use Rattle.std.specs.Prelude.{slice_index_or}
use Rattle.sha2.specs.Sha256.{sha256}
use Rattle.lig_merkle.specs.Merkle.{leaf_message, node_message, leaf_hash, root_of}
use Rattle.lig_merkle.specs.Shared.{AreOpened, missing, parents, hash_at, root_of_many}

-- two messages with one digest
pub record Collide (m n : List ℕ) : Type 0 where
  pub differ : m ≢ n
  pub digest : sha256 m ≡ sha256 n

-- the messages that are hashed on the way from one of them up: this one, then the node over its
-- digest and its sibling, and so on to the root
abbrev pub messages_up : List ℕ → ℕ → List (List ℕ) → List (List ℕ)
messages_up message index [] = message ∷ []
messages_up message index (sibling ∷ path) =
    let hash = sha256 message in
    message ∷ messages_up
    (if index % 2 == 0 then node_message hash sibling else node_message sibling hash)
    (index / 2) path

-- those of an opening, from the leaf on
abbrev pub opening_messages : List ℕ → ℕ → List (List ℕ) → List (List ℕ)
opening_messages column index path = messages_up (leaf_message column) index path

-- where two columns, each with a path from one place in trees of one depth, lead to one root and
-- differ, there is a level on which the messages that the two openings hash collide
abbrev pub OpeningsBind : Type 0
OpeningsBind = (index : ℕ) (a b : List ℕ) (from_a from_b : List (List ℕ))
    → All (λ value. value < 2 ^ 64) a → All (λ value. value < 2 ^ 64) b
    → length from_a ≡ length from_b → a ≢ b
    → root_of (leaf_hash a) index from_a ≡ root_of (leaf_hash b) index from_b
    → (level : ℕ) × (level ≤ length from_a)
    × Collide (slice_index_or (opening_messages a index from_a) level [])
    (slice_index_or (opening_messages b index from_b) level [])

-- the messages that are hashed for the nodes above known places, where these and the missing ones
-- have the digests of messages and these hashes
abbrev pub messages_above : List ℕ → List (List ℕ) → List (List ℕ) → List (List ℕ)
messages_above known messages nodes =
    let level = hash_at (known ++ missing known) (map sha256 messages ++ nodes) in
    map (λ place. node_message (level (2 * place)) (level (2 * place + 1))) (parents known)

-- those that are hashed on the way from several leaves with the nodes that they share, level by
-- level, from the leaves' own on
abbrev pub levels_up : ℕ → List ℕ → List (List ℕ) → List (List ℕ) → List (List (List ℕ))
levels_up zero known messages nodes = messages ∷ []
levels_up (suc depth) known messages nodes =
    let count = length (missing known) in
    messages ∷ levels_up depth (parents known)
    (messages_above known messages (take count nodes)) (drop count nodes)

-- columns of words, as many as are opened
pub record AreColumns (opened : List ℕ) (columns : List (List ℕ)) : Type 0 where
  pub count : length columns ≡ length opened
  pub words : All (λ column. All (λ value. value < 2 ^ 64) column) columns

-- where columns at the same places, each time with shared nodes, lead to one root and those at one
-- place differ, there is a place on some level at which the messages that are hashed collide
abbrev pub SharedOpeningsBind : Type 0
SharedOpeningsBind = (depth : ℕ) (opened : List ℕ) (a b from_a from_b : List (List ℕ)) (q : ℕ)
    → AreOpened depth opened → AreColumns opened a → AreColumns opened b → q < length opened
    → slice_index_or a q [] ≢ slice_index_or b q []
    → root_of_many depth opened (map leaf_hash a) from_a
    ≡ root_of_many depth opened (map leaf_hash b) from_b
    → (let in_a = levels_up depth opened (map leaf_message a) from_a in
    let in_b = levels_up depth opened (map leaf_message b) from_b in
    (level : ℕ) × (level ≤ depth) × (place : ℕ)
    × Collide (slice_index_or (slice_index_or in_a level []) place [])
    (slice_index_or (slice_index_or in_b level []) place []))
