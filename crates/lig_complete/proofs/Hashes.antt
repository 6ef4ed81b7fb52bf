-- What a tree is made of are hashes.
use Rattle.std.proofs.Common.{◌≡◌, ℕ, zero, suc, ◌+◌, ◌-◌, ◌*◌, ◌%◌, ◌^◌, ◌<◌, List, [], ◌∷◌, ◌++◌}
use Rattle.std.proofs.Common.{Bool, true, false, cond, ltb, not, All, get_or, slice_index}
use Rattle.std.proofs.Common.{map, take, drop, sym, subst, arith, ⊎_elim, lit<}
use Rattle.std.specs.List.{AllByRecursion}
use Rattle.std.specs.Int.{w32, to_be_bytes, byte_at, bytes_high_first}
use Rattle.std.proofs.Math.Nat.{pow-suc}
use Rattle.std.proofs.lemmas.Bool.{cases_eq, eq-eqb, ne_eqb}
use Rattle.std.proofs.lemmas.Nat.{mod_below}
use Rattle.std.proofs.lemmas.List.{get_or-take, get_or-drop}
use Rattle.std.proofs.lemmas.List.Elements.{recursion_from_All, All-filter, All-map, All-weaker}
use Rattle.sha2.specs.Sha256.{sha256, digest_bytes}
use Rattle.lig_merkle.specs.Merkle.{root_at, path_at}
use Rattle.lig_merkle.proofs.Binding.{digest_length}
use Rattle.lig_merkle.specs.Nodes.{sibling_of}
use Rattle.lig_merkle.specs.Shared.{is_known, missing, parents, level_over, shared_nodes}
use Rattle.lig_proof.specs.ProofBytes.{IsHash}

pub all_append : {X : Type 0} (F : X → Type 0) (xs ys : List X) → AllByRecursion F xs
    → AllByRecursion F ys → AllByRecursion F (xs ++ ys)
all_append F [] ys h k = k
all_append F (x ∷ xs) ys h k = (h.0, all_append F xs ys h.1 k)

pub all_made : {X : Type 0} (F : X → Type 0) (f : ℕ → X) (xs : List ℕ) → ((i : ℕ) → F (f i))
    → AllByRecursion F (map f xs)
all_made F f [] each = tt
all_made F f (x ∷ xs) each = (each x, all_made F f xs each)

byte_low : (i n : ℕ) → byte_at i n < 256
byte_low zero n = mod_below n 256 (lit< tt)
byte_low (suc i) n = mod_below _ 256 (lit< tt)

bytes_low : (k n : ℕ) → AllByRecursion (λ byte. byte < 256) (bytes_high_first k n)
bytes_low zero n = tt
bytes_low (suc k) n = (byte_low k n, bytes_low k n)

digest_low : (h : List ℕ) (n : ℕ) → AllByRecursion (λ byte. byte < 256) (digest_bytes h n)
unfolding digest_bytes
digest_low h zero = tt
digest_low h (suc n) =
    all_append (λ byte. byte < 256) (digest_bytes h n) (to_be_bytes w32 (slice_index h n))
    (digest_low h n) (bytes_low 4 (slice_index h n))

pub is_digest : (message : List ℕ) → IsHash (sha256 message)
unfolding sha256
is_digest message = record { count = digest_length message; each = digest_low _ 8 }

pub root_is_hash : (depth : ℕ) (hashes : List (List ℕ))
    → ((k : ℕ) → k < 2 ^ depth → IsHash (get_or hashes k [])) → IsHash (root_at depth hashes)
root_is_hash zero hashes each = each 0 (omega arith)
root_is_hash (suc depth) hashes each = is_digest _

pub path_hashes : (depth : ℕ) (hashes : List (List ℕ)) (i : ℕ)
    → ((k : ℕ) → k < 2 ^ depth → IsHash (get_or hashes k []))
    → AllByRecursion IsHash (path_at depth hashes i)
path_hashes zero hashes i each = tt
path_hashes (suc d) hashes i each =
    let n = 2 ^ d in
    let double : 2 ^ suc d ≡ 2 ^ d * 2 = pow-suc 2 d in
    let front = take n hashes in
    let back = drop n hashes in
    let in_front : (k : ℕ) → k < n → IsHash (get_or front k []) =
    λ k l. subst IsHash (sym (get_or-take n hashes k [] l)) (each k (omega arith)) in
    let in_back : (k : ℕ) → k < n → IsHash (get_or back k []) =
    λ k l. subst IsHash (sym (get_or-drop n hashes k [])) (each (n + k) (omega arith)) in
    elim (ltb i n) as
    (λ b. AllByRecursion IsHash
    (cond b (path_at d front i ++ root_at d back ∷ [])
    (path_at d back (i - n) ++ root_at d front ∷ []))) [
      | true ↦ all_append IsHash (path_at d front i) (root_at d back ∷ [])
          (path_hashes d front i in_front) (root_is_hash d back in_back, tt)
      | false ↦
          all_append IsHash (path_at d back (i - n)) (root_at d front ∷ [])
          (path_hashes d back (i - n) in_back) (root_is_hash d front in_front, tt)
    ]

-- nodes over a level are hashes
upper_hashes : (depth : ℕ) (level : ℕ → List ℕ) (known : List ℕ)
    → AllByRecursion IsHash (shared_nodes depth (level_over level) known)
upper_hashes zero level known = tt
upper_hashes (suc depth) level known =
    all_append IsHash (map (level_over level) (missing known))
    (shared_nodes depth (level_over (level_over level)) (parents known))
    (all_made IsHash (level_over level) (missing known) (λ i. is_digest _))
    (upper_hashes depth (level_over level) (parents known))

sibling_below : (n i : ℕ) → i < n * 2 → sibling_of i < n * 2
sibling_below n i low =
    let Low : Bool → Type 0 = λ b. cond b (i + 1) (i - 1) < n * 2 in
    ⊎_elim (λ e. subst Low (sym (eq-eqb (i % 2) 0 e)) (omega arith))
    (λ ne. subst Low (sym (ne_eqb (i % 2) 0 ne)) (omega arith)) (cases_eq (i % 2) 0)

pub nodes_hashes : (depth : ℕ) (level : ℕ → List ℕ) (known : List ℕ)
    → All (λ place. place < 2 ^ depth) known → ((i : ℕ) → i < 2 ^ depth → IsHash (level i))
    → AllByRecursion IsHash (shared_nodes depth level known)
nodes_hashes zero level known within each = tt
nodes_hashes (suc d) level known within each =
    let n = 2 ^ d in
    let double : 2 ^ suc d ≡ n * 2 = pow-suc 2 d in
    let Low : ℕ → Type 0 = λ place. place < 2 ^ suc d in
    let siblings : All (λ place. Low (sibling_of place)) known =
    All-weaker Low (λ place. Low (sibling_of place))
    (λ place l. let below : sibling_of place < n * 2 = sibling_below n place (omega arith)
    in omega arith) known within in
    let lacks : All Low (missing known) =
    All-filter (λ place. not (is_known known place)) Low (map sibling_of known)
    (All-map Low sibling_of known siblings) in
    all_append IsHash (map level (missing known))
    (shared_nodes d (level_over level) (parents known))
    (recursion_from_All IsHash (map level (missing known))
    (All-map IsHash level (missing known)
    (All-weaker Low (λ place. IsHash (level place)) each (missing known) lacks)))
    (upper_hashes d level (parents known))
