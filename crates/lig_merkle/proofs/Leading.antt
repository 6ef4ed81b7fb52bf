-- Opened leaves with their shared nodes lead to the root.
use Rattle.std.proofs.Common.{◌≡◌, ℕ, zero, suc, ◌+◌, ◌-◌, ◌*◌, ◌/◌, ◌%◌, ◌^◌, ◌<◌, ◌≤◌, ◌⊎◌, List}
use Rattle.std.proofs.Common.{[], ◌∷◌, ◌++◌, Bool, true, cond, eqb, ◌||◌, All, length, map, take}
use Rattle.std.proofs.Common.{drop, get_or, refl, sym, ap, subst, ◌∙◌, arith, ⊎_elim}
use Rattle.std.proofs.Math.Nat.{pow-suc}
use Rattle.std.proofs.Math.Seq.{take-append_seam, drop-append_seam}
use Rattle.std.proofs.lemmas.Bool.{cases_Bool, eqb-true}
use Rattle.std.proofs.lemmas.List.{length-map, map-append, get_or-take, get_or-drop, length-append}
use Rattle.std.proofs.lemmas.List.Elements.{All-head}
use Rattle.lig_merkle.specs.Merkle.{node_hash, root_at}
use Rattle.lig_merkle.specs.Shared.{AreOpened, is_known, missing, parents, level_over, shared_nodes}
use Rattle.lig_merkle.specs.Shared.{shared_count, hash_at, parent_hashes, root_of_many}
use Rattle.lig_merkle.specs.Shared.{SharedNodesLeadToRoot}
use Rattle.lig_merkle.proofs.Known.{known_head, known_tail, child_found, parents_opened}

-- the root over 2 ^ depth leaves, level by level
pub top : ℕ → (ℕ → List ℕ) → List ℕ
top zero level = level 0
top (suc depth) level = top depth (level_over level)

top_same : (depth : ℕ) (f g : ℕ → List ℕ) → ((i : ℕ) → i < 2 ^ depth → f i ≡ g i)
    → top depth f ≡ top depth g
unfolding top
top_same zero f g h = h 0 (omega arith)
top_same (suc depth) f g h =
    let double : 2 ^ suc depth ≡ 2 * 2 ^ depth = pow-suc 2 depth ∙ omega arith in
    top_same depth (level_over f) (level_over g)
    (λ i l. ap (λ x. node_hash x (f (2 * i + 1))) (h (2 * i) (omega arith))
    ∙ ap (λ x. node_hash (g (2 * i)) x) (h (2 * i + 1) (omega arith)))

-- by halves
top_split : (depth : ℕ) (f : ℕ → List ℕ)
    → top (suc depth) f ≡ node_hash (top depth f) (top depth (λ i. f (2 ^ depth + i)))
unfolding top
top_split zero f = refl
top_split (suc depth) f =
    let double : 2 ^ suc depth ≡ 2 * 2 ^ depth = pow-suc 2 depth ∙ omega arith in
    top_split depth (level_over f) ∙ ap (λ x. node_hash (top depth (level_over f)) x)
    (top_same depth (λ i. level_over f (2 ^ depth + i)) (level_over (λ i. f (2 ^ suc depth + i)))
    (λ i l. ap (λ n. node_hash (f n) (f (2 * (2 ^ depth + i) + 1))) (omega arith)
    ∙ ap (λ n. node_hash (f (2 ^ suc depth + 2 * i)) (f n)) (omega arith)))

pub top_root : (depth : ℕ) (hashes : List (List ℕ)) → top depth (λ i. get_or hashes i [])
    ≡ root_at depth hashes
unfolding top
top_root zero hashes = refl
top_root (suc depth) hashes =
    let f = λ (i : ℕ). get_or hashes i [] in
    let front = take (2 ^ depth) hashes in
    let back = drop (2 ^ depth) hashes in
    top_split depth f
    ∙ ap (λ x. node_hash x (top depth (λ i. f (2 ^ depth + i))))
    (top_same depth f (λ i. get_or front i [])
    (λ i l. sym (get_or-take (2 ^ depth) hashes i [] l)) ∙ top_root depth front)
    ∙ ap (λ x. node_hash (root_at depth front) x)
    (top_same depth (λ i. f (2 ^ depth + i)) (λ i. get_or back i [])
    (λ i l. sym (get_or-drop (2 ^ depth) hashes i [])) ∙ top_root depth back)

-- two functions that agree at what is known
map_same : {X : Type 0} (f g : ℕ → X) (xs : List ℕ) → ((x : ℕ) → is_known xs x ≡ true → f x ≡ g x)
    → map f xs ≡ map g xs
map_same f g [] h = refl
map_same f g (x ∷ xs) h = ap (λ y. y ∷ map f xs) (h x (known_head x xs x refl))
    ∙ ap (λ ys. g x ∷ ys) (map_same f g xs (λ y k. h y (known_tail x xs y k)))

hash_at-map : (f : ℕ → List ℕ) (places : List ℕ) (i : ℕ) → is_known places i ≡ true
    → hash_at places (map f places) i ≡ f i
hash_at-map f [] i h = absurd (cc)
hash_at-map f (k ∷ places) i h =
    let Is : Bool → Type 0 = λ b. cond b (f k) (hash_at places (map f places) i) ≡ f i in
    let Known : Bool → Type 0 = λ b. (b || is_known places i) ≡ true in
    ⊎_elim (λ e. subst Is (sym e) (ap f (eqb-true k i e)))
    (λ e. subst Is (sym e) (hash_at-map f places i (subst Known e h))) (cases_Bool (eqb k i))

-- the hashes above, where the known ones and the missing ones are a level's
parents_hashed : (f : ℕ → List ℕ) (known : List ℕ)
    → parent_hashes known (map f known) (map f (missing known)) ≡ map (level_over f) (parents known)
parents_hashed f known =
    let places = known ++ missing known in
    let here = λ (q : ℕ). λ (child : ℕ). λ (k : is_known (parents known) q ≡ true).
    λ (e : child / 2 ≡ q). hash_at-map f places child (child_found known q child k e) in
    ap (λ hashes. map (level_over (hash_at places hashes)) (parents known))
    (sym (map-append f known (missing known)))
    ∙ map_same (level_over (hash_at places (map f places))) (level_over f) (parents known)
    (λ q k. ap (λ x. node_hash x (hash_at places (map f places) (2 * q + 1)))
    (here q (2 * q) k (omega arith))
    ∙ ap (λ x. node_hash (f (2 * q)) x) (here q (2 * q + 1) k (omega arith)))

first_of : (f : ℕ → List ℕ) (known : List ℕ) → 0 < length known → All (λ place. place < 2 ^ 0) known
    → get_or (map f known) 0 [] ≡ f 0
first_of f [] some within = absurd (omega arith)
first_of f (x ∷ xs) some within = let low : x < 1 = All-head (λ place. place < 2 ^ 0) x xs within
    in let is : x ≡ 0 = omega arith in ap f is

shared_lead : (depth : ℕ) (f : ℕ → List ℕ) (known : List ℕ) → AreOpened depth known
    → root_of_many depth known (map f known) (shared_nodes depth f known) ≡ top depth f
unfolding top
shared_lead zero f known h = first_of f known h.some h.within
shared_lead (suc depth) f known h =
    let lacks = map f (missing known) in
    let above = shared_nodes depth (level_over f) (parents known) in
    let count : length (missing known) ≡ length lacks = sym (length-map (missing known) f) in
    let here : take (length (missing known)) (lacks ++ above) ≡ lacks =
    ap (λ n. take n (lacks ++ above)) count ∙ take-append_seam lacks above in
    let further : drop (length (missing known)) (lacks ++ above) ≡ above =
    ap (λ n. drop n (lacks ++ above)) count ∙ drop-append_seam lacks above in
    ap (λ nodes. root_of_many depth (parents known) (parent_hashes known (map f known) nodes)
    (drop (length (missing known)) (lacks ++ above))) here
    ∙ ap (λ hashes. root_of_many depth (parents known) hashes
    (drop (length (missing known)) (lacks ++ above))) (parents_hashed f known)
    ∙ ap (λ nodes. root_of_many depth (parents known) (map (level_over f) (parents known)) nodes)
    further
    ∙ shared_lead depth (level_over f) (parents known) (parents_opened depth known h)

pub shared_nodes_lead : SharedNodesLeadToRoot
shared_nodes_lead depth hashes opened h =
    shared_lead depth (λ i. get_or hashes i []) opened h ∙ top_root depth hashes

-- as many as are counted
pub length-shared_nodes : (depth : ℕ) (f : ℕ → List ℕ) (known : List ℕ)
    → length (shared_nodes depth f known) ≡ shared_count depth known
length-shared_nodes zero f known = refl
length-shared_nodes (suc depth) f known =
    let lacks = map f (missing known) in
    let above = shared_nodes depth (level_over f) (parents known) in
    omega (
      arith,
      length-append lacks above,
      length-map (missing known) f,
      length-shared_nodes depth (level_over f) (parents known),
    )
