-- The steps of loops over the levels of a tree.
use Rattle.std.proofs.Common.{◌≡◌, ℕ, zero, suc, ◌+◌, ◌-◌, ◌*◌, ◌/◌, ◌%◌, ◌^◌, ◌<◌, ◌≤◌, List, []}
use Rattle.std.proofs.Common.{◌∷◌, ◌++◌, Bool, true, false, cond, eqb, not, All, length, map}
use Rattle.std.proofs.Common.{filter, take, drop, get_or, refl, sym, ap, subst, ◌∙◌, arith, ⊎_elim}
use Rattle.std.proofs.Common.{Result, Ok, Err, is_err, zero-add, append_assoc}
use Rattle.std.specs.List.{AllByRecursion}
use Rattle.std.proofs.Math.Nat.{pow-suc, pow-le-pow_right}
use Rattle.std.proofs.lemmas.Bool.{cases_Bool, eq-eqb, ne_eqb, or_parts, or_from}
use Rattle.std.proofs.lemmas.Nat.{pow_pos}
use Rattle.std.proofs.lemmas.List.{append-nil, map_more, length-map, length-drop, get_or-drop}
use Rattle.std.proofs.lemmas.List.Elements.{filter-append, recursion_from_All, All-from_recursion}
use Rattle.std.proofs.lemmas.List.Elements.{All-weaker}
use Rattle.lig_merkle.specs.Merkle.{node_hash}
use Rattle.lig_merkle.specs.Nodes.{AreJoined, sibling_of}
use Rattle.lig_merkle.specs.Shared.{AreOpened, is_known, missing, parents, level_over, shared_nodes}
use Rattle.lig_merkle.specs.Shared.{shared_count, hash_at, parent_hashes, root_of_many}
use Rattle.lig_merkle.proofs.Known.{Found, Rises, missing_in, parents_opened, count_below}
use Rattle.lig_merkle.proofs.Known.{within_double}
use Rattle.lig_merkle.proofs.Places.{parity}

-- one place more
one_more : (known : List ℕ) (i : ℕ) → i < length known → missing_in known (take (i + 1) known)
    ≡ missing_in known (take i known) ++ cond (not (is_known known (sibling_of (get_or known i 0))))
    (sibling_of (get_or known i 0) ∷ []) []
one_more known i l =
    ap (λ xs. filter (λ place. not (is_known known place)) xs) (map_more sibling_of known i 0 l)
    ∙ filter-append (λ place. not (is_known known place)) (map sibling_of (take i known))
    (sibling_of (get_or known i 0) ∷ [])

pub missing_more : (known : List ℕ) (i : ℕ) → i < length known
    → is_known known (sibling_of (get_or known i 0)) ≡ false
    → missing_in known (take (i + 1) known) ≡ missing_in known (take i known)
    ++ sibling_of (get_or known i 0) ∷ []
missing_more known i l e =
    one_more known i l
    ∙ ap (λ b. missing_in known (take i known)
    ++ cond (not b) (sibling_of (get_or known i 0) ∷ []) []) e

pub missing_same : (known : List ℕ) (i : ℕ) → i < length known
    → is_known known (sibling_of (get_or known i 0)) ≡ true
    → missing_in known (take (i + 1) known) ≡ missing_in known (take i known)
missing_same known i l e =
    one_more known i l
    ∙ ap (λ b. missing_in known (take i known)
    ++ cond (not b) (sibling_of (get_or known i 0) ∷ []) []) e
    ∙ append-nil (missing_in known (take i known))

-- what a search found, by the test of its answer
pub unknown_of_err : (xs : List ℕ) (x : ℕ) (r : Result ℕ ℕ) → Found xs x r → is_err r ≡ true
    → is_known xs x ≡ false
unknown_of_err xs x (Ok i) found e = absurd (cc)
unknown_of_err xs x (Err i) found e = found

pub known_of_err : (xs : List ℕ) (x : ℕ) (r : Result ℕ ℕ) → Found xs x r → is_err r ≡ false
    → is_known xs x ≡ true
known_of_err xs x (Ok i) found e = found.2
known_of_err xs x (Err i) found e = absurd (cc)

-- the hash at one of some places
pub hash_found : (places : List ℕ) (hashes : List (List ℕ)) (i place : ℕ) → Rises places
    → i < length places → length hashes ≡ length places → get_or places i 0 ≡ place
    → hash_at places hashes place ≡ get_or hashes i []
hash_found [] hashes i place up l count e = absurd (omega arith)
hash_found (k ∷ places) [] i place up l count e = absurd (omega arith)
hash_found (k ∷ places) (hash ∷ hashes) zero place up l count e =
    ap (λ b. cond b hash (hash_at places hashes place)) (eq-eqb k place e)
hash_found (k ∷ places) (hash ∷ hashes) (suc i) place up l count e =
    let above : k < get_or places i 0 =
    All-from_recursion (λ y. k < y) places up.0 i 0 (omega arith) in
    let other : k ≡ place → ⊥ = λ same. omega arith in
    ap (λ b. cond b hash (hash_at places hashes place)) (ne_eqb k place other)
    ∙ hash_found places hashes i place up.1 (omega arith) (omega arith) e

-- the hash at a known place, and at one of the others
pub hash_in_front : (known beside : List ℕ) (hashes nodes : List (List ℕ)) (i place : ℕ)
    → Rises known → i < length known → length hashes ≡ length known → get_or known i 0 ≡ place
    → hash_at (known ++ beside) (hashes ++ nodes) place ≡ get_or hashes i []
hash_in_front [] beside hashes nodes i place up l count e = absurd (omega arith)
hash_in_front (k ∷ known) beside [] nodes i place up l count e = absurd (omega arith)
hash_in_front (k ∷ known) beside (hash ∷ hashes) nodes zero place up l count e =
    ap (λ b. cond b hash (hash_at (known ++ beside) (hashes ++ nodes) place)) (eq-eqb k place e)
hash_in_front (k ∷ known) beside (hash ∷ hashes) nodes (suc i) place up l count e =
    let above : k < get_or known i 0 =
    All-from_recursion (λ y. k < y) known up.0 i 0 (omega arith) in
    let other : k ≡ place → ⊥ = λ same. omega arith in
    ap (λ b. cond b hash (hash_at (known ++ beside) (hashes ++ nodes) place)) (ne_eqb k place other)
    ∙ hash_in_front known beside hashes nodes i place up.1 (omega arith) (omega arith) e

pub hash_behind : (known beside : List ℕ) (hashes nodes : List (List ℕ)) (place : ℕ)
    → length hashes ≡ length known → is_known known place ≡ false
    → hash_at (known ++ beside) (hashes ++ nodes) place ≡ hash_at beside nodes place
hash_behind [] beside [] nodes place count e = refl
hash_behind [] beside (hash ∷ hashes) nodes place count e = absurd (omega arith)
hash_behind (k ∷ known) beside [] nodes place count e = absurd (omega arith)
hash_behind (k ∷ known) beside (hash ∷ hashes) nodes place count e =
    let both = or_parts (eqb k place) (is_known known place) e in
    ap (λ b. cond b hash (hash_at (known ++ beside) (hashes ++ nodes) place)) both.0
    ∙ hash_behind known beside hashes nodes place (omega arith) both.1

pub known_neither : (known beside : List ℕ) (place : ℕ) → is_known known place ≡ false
    → is_known beside place ≡ false → is_known (known ++ beside) place ≡ false
known_neither [] beside place a b = b
known_neither (k ∷ known) beside place a b =
    let both = or_parts (eqb k place) (is_known known place) a in
    or_from (eqb k place) (is_known (known ++ beside) place) both.0
    (known_neither known beside place both.1 b)

-- one level more: a loop that counts the shared nodes
pub record Counting (depth i : ℕ) (opened known : List ℕ) (count : ℕ) : Type 0 where
  pub level : AreOpened (depth - i) known
  pub sum : count + shared_count (depth - i) known ≡ shared_count depth opened

above_it : (depth i : ℕ) → i < depth → depth - i ≡ suc (depth - (i + 1))
above_it depth i l = omega arith

pub next_level : (depth i : ℕ) (known : List ℕ) → i < depth → AreOpened (depth - i) known
    → AreOpened (depth - (i + 1)) (parents known)
next_level depth i known l h =
    let Opened : ℕ → Type 0 = λ d. AreOpened d known in
    parents_opened (depth - (i + 1)) known (subst Opened (above_it depth i l) h)

pub counting_more : (depth i : ℕ) (opened known : List ℕ) (count : ℕ) → i < depth
    → Counting depth i opened known count
    → Counting depth (i + 1) opened (parents known) (count + length (missing known))
counting_more depth i opened known count l h =
    let whole : shared_count (depth - i) known
    ≡ length (missing known) + shared_count (depth - (i + 1)) (parents known) =
    ap (λ d. shared_count d known) (above_it depth i l) in
    let sum = h.sum in
    record { level = next_level depth i known l h.level; sum = omega arith }

pub counting_fits : (depth i : ℕ) (opened known : List ℕ) (count : ℕ) → i < depth → depth ≤ 32
    → AreOpened depth opened → Counting depth i opened known count
    → count + length (missing known) < 2 ^ 32
counting_fits depth i opened known count l small first h =
    let whole : shared_count (depth - i) known
    ≡ length (missing known) + shared_count (depth - (i + 1)) (parents known) =
    ap (λ d. shared_count d known) (above_it depth i l) in
    let sum = h.sum in
    let most = count_below depth opened first in
    let powers : 2 ^ depth ≤ 2 ^ 32 = pow-le-pow_right (omega arith) small in
    omega arith

-- places of a level of at most 2 ^ 63
pub places_small : (depth : ℕ) (known : List ℕ) → depth ≤ 63 → AreOpened depth known
    → All (λ place. place < 2 ^ 63) known
places_small depth known small h =
    let powers : 2 ^ depth ≤ 2 ^ 63 = pow-le-pow_right (omega arith) small in
    All-weaker (λ place. place < 2 ^ depth) (λ place. place < 2 ^ 63)
    (λ x l. omega arith) known h.within

from_none : (depth : ℕ) → depth ≡ depth - 0
from_none depth = omega arith

pub counting_begins : (depth : ℕ) (opened known : List ℕ) → known ≡ opened → AreOpened depth opened
    → Counting depth 0 opened known 0
counting_begins depth opened known e h =
    let Opened : ℕ → Type 0 = λ d. AreOpened d opened in
    let Known : List ℕ → Type 0 = λ xs. AreOpened (depth - 0) xs in
    record {
      level = subst Known (sym e) (subst Opened (from_none depth) h);
      sum = zero-add (shared_count (depth - 0) known) ∙ ap (λ xs. shared_count (depth - 0) xs) e
          ∙ ap (λ d. shared_count d opened) (sym (from_none depth));
    }

pub counting_ends : (depth i : ℕ) (opened known : List ℕ) (count : ℕ) → depth ≤ i
    → Counting depth i opened known count → count ≡ shared_count depth opened
counting_ends depth i opened known count le h =
    let none : depth - i ≡ 0 = omega arith in
    let zero_left : shared_count (depth - i) known ≡ 0 = ap (λ d. shared_count d known) none in
    let sum = h.sum in
    omega arith

-- a loop that leads hashes to the root
pub record Leading (depth i : ℕ) (opened : List ℕ) (leaves nodes : List (List ℕ)) (known : List ℕ)
    (hashes left : List (List ℕ)) : Type 0 where
  pub level : AreOpened (depth - i) known
  pub hashes_count : length hashes ≡ length known
  pub nodes_count : length left ≡ shared_count (depth - i) known
  pub leads : root_of_many (depth - i) known hashes left ≡ root_of_many depth opened leaves nodes

pub leading_begins : (depth : ℕ) (opened : List ℕ) (leaves nodes : List (List ℕ)) (known : List ℕ)
    (hashes : List (List ℕ)) → known ≡ opened → hashes ≡ leaves
    → AreOpened depth opened → length leaves ≡ length opened
    → length nodes ≡ shared_count depth opened
    → Leading depth 0 opened leaves nodes known hashes nodes
leading_begins depth opened leaves nodes known hashes e f h count all =
    let Known : List ℕ → Type 0 = λ xs. Leading depth 0 opened leaves nodes xs hashes nodes in
    let Hashed : List (List ℕ) → Type 0 =
    λ xs. Leading depth 0 opened leaves nodes opened xs nodes in
    let Opened : ℕ → Type 0 = λ d. AreOpened d opened in
    subst Known (sym e) (subst Hashed (sym f) (record {
      level = subst Opened (from_none depth) h;
      hashes_count = count;
      nodes_count = all ∙ ap (λ d. shared_count d opened) (from_none depth);
      leads = ap (λ d. root_of_many d opened leaves nodes) (sym (from_none depth));
    }))

module _ (depth i : ℕ) (opened : List ℕ) (leaves nodes : List (List ℕ)) (known : List ℕ)
    (hashes left : List (List ℕ)) (l : i < depth)
    (h : Leading depth i opened leaves nodes known hashes left) where
  pub enough : length left ≡ length (missing known) + shared_count (depth - (i + 1)) (parents known)
  enough = h.nodes_count ∙ ap (λ d. shared_count d known) (above_it depth i l)

  pub leading_more : Leading depth (i + 1) opened leaves nodes (parents known)
      (parent_hashes known hashes (take (length (missing known)) left))
      (drop (length (missing known)) left)
  leading_more = record {
    level = next_level depth i known l h.level;
    hashes_count =
        length-map (parents known)
        (level_over
        (hash_at (known ++ missing known) (hashes ++ take (length (missing known)) left)));
    nodes_count = let all = enough in omega (arith, length-drop (length (missing known)) left);
    leads = sym (ap (λ d. root_of_many d known hashes left) (above_it depth i l)) ∙ h.leads;
  }

pub leading_ends : (depth i : ℕ) (opened : List ℕ) (leaves nodes : List (List ℕ)) (known : List ℕ)
    (hashes left : List (List ℕ)) → depth ≤ i
    → Leading depth i opened leaves nodes known hashes left
    → get_or hashes 0 [] ≡ root_of_many depth opened leaves nodes
leading_ends depth i opened leaves nodes known hashes left le h =
    let none : depth - i ≡ 0 = omega arith in
    sym (ap (λ d. root_of_many d known hashes left) none) ∙ h.leads

-- the same after the calls that made the next level
pub leading_as : (depth i : ℕ) (opened : List ℕ) (leaves nodes : List (List ℕ)) (known xs : List ℕ)
    (hashes ys left zs : List (List ℕ)) → xs ≡ known → ys ≡ hashes → zs ≡ left
    → Leading depth i opened leaves nodes known hashes left
    → Leading depth i opened leaves nodes xs ys zs
leading_as depth i opened leaves nodes known xs hashes ys left zs e f g h =
    let First : List ℕ → Type 0 = λ a. Leading depth i opened leaves nodes a ys zs in
    let Second : List (List ℕ) → Type 0 = λ a. Leading depth i opened leaves nodes known a zs in
    let Third : List (List ℕ) → Type 0 = λ a. Leading depth i opened leaves nodes known hashes a in
    subst First (sym e) (subst Second (sym f) (subst Third (sym g) h))

pub counting_as : (depth i : ℕ) (opened known xs : List ℕ) (count n : ℕ) → xs ≡ known → n ≡ count
    → Counting depth i opened known count → Counting depth i opened xs n
counting_as depth i opened known xs count n e f h =
    let First : List ℕ → Type 0 = λ a. Counting depth i opened a n in
    let Second : ℕ → Type 0 = λ a. Counting depth i opened known a in
    subst First (sym e) (subst Second (sym f) h)

-- functions that agree below n
map_below : {X : Type 0} (f g : ℕ → X) (n : ℕ) (xs : List ℕ) → ((x : ℕ) → x < n → f x ≡ g x)
    → AllByRecursion (λ x. x < n) xs → map f xs ≡ map g xs
map_below f g n [] same below = refl
map_below f g n (x ∷ xs) same below =
    ap (λ y. y ∷ map f xs) (same x below.0) ∙ ap (λ ys. g x ∷ ys) (map_below f g n xs same below.1)

sibling_below : (x n : ℕ) → x < 2 * n → sibling_of x < 2 * n
sibling_below x n l =
    let Below : ℕ → Type 0 = λ b. cond (eqb b 0) (x + 1) (x - 1) < 2 * n in
    ⊎_elim (λ even. subst Below (sym even) (omega arith))
    (λ odd. subst Below (sym odd) (omega arith)) (parity x)

missing_below : (whole : List ℕ) (n : ℕ) (xs : List ℕ) → AllByRecursion (λ x. x < 2 * n) xs
    → AllByRecursion (λ x. x < 2 * n) (missing_in whole xs)
missing_below whole n [] below = tt
missing_below whole n (x ∷ xs) below =
    let more = missing_below whole n xs below.1 in
    let Below : Bool
    → Type 0 =
    λ b. AllByRecursion (λ x. x < 2 * n)
    (cond (not b) (sibling_of x ∷ missing_in whole xs) (missing_in whole xs)) in
    ⊎_elim (λ e. subst Below (sym e) more)
    (λ e. subst Below (sym e) (sibling_below x n below.0, more))
    (cases_Bool (is_known whole (sibling_of x)))

-- only the places of a level count
pub shared_same : (depth : ℕ) (f g : ℕ → List ℕ) (known : List ℕ) → AreOpened depth known
    → ((i : ℕ) → i < 2 ^ depth → f i ≡ g i)
    → shared_nodes depth f known ≡ shared_nodes depth g known
shared_same zero f g known h same = refl
shared_same (suc depth) f g known h same =
    let double : 2 ^ suc depth ≡ 2 * 2 ^ depth = pow-suc 2 depth ∙ omega arith in
    let below =
    missing_below known (2 ^ depth) known
    (recursion_from_All (λ y. y < 2 * 2 ^ depth) known (within_double depth known h.within)) in
    ap (λ xs. xs ++ shared_nodes depth (level_over f) (parents known))
    (map_below f g (2 * 2 ^ depth) (missing known) (λ x l. same x (omega arith)) below)
    ∙ ap (λ xs. map g (missing known) ++ xs)
    (shared_same depth (level_over f) (level_over g) (parents known)
    (parents_opened depth known h)
    (λ i l. ap (λ x. node_hash x (f (2 * i + 1))) (same (2 * i) (omega arith))
    ∙ ap (λ x. node_hash (g (2 * i)) x) (same (2 * i + 1) (omega arith))))

-- a loop that gathers the shared nodes
pub record Gathering (depth i : ℕ) (nodes : List (List ℕ)) (opened known : List ℕ) (first : ℕ)
    (out : List (List ℕ)) : Type 0 where
  pub level : AreOpened (depth - i) known
  pub start : first ≡ 2 ^ (depth - i)
  pub so_far : out ++ shared_nodes (depth - i) (λ j. get_or nodes (first + j) []) known
      ≡ shared_nodes depth (λ j. get_or nodes (2 ^ depth + j) []) opened

pub gathering_begins : (depth : ℕ) (nodes : List (List ℕ)) (opened known : List ℕ) (first : ℕ)
    → known ≡ opened → first ≡ 2 ^ depth → AreOpened depth opened
    → Gathering depth 0 nodes opened known first []
gathering_begins depth nodes opened known first e f h =
    let Known : List ℕ → Type 0 = λ xs. Gathering depth 0 nodes opened xs first [] in
    let First : ℕ → Type 0 = λ n. Gathering depth 0 nodes opened opened n [] in
    let Opened : ℕ → Type 0 = λ d. AreOpened d opened in
    subst Known (sym e) (subst First (sym f) (record {
      level = subst Opened (from_none depth) h;
      start = ap (λ d. 2 ^ d) (from_none depth);
      so_far = ap (λ d. shared_nodes d (λ j. get_or nodes (2 ^ depth + j) []) opened)
          (sym (from_none depth));
    }))

pub gathering_more : (depth i : ℕ) (nodes : List (List ℕ)) (opened known : List ℕ) (first : ℕ)
    (out : List (List ℕ)) → i < depth → AreJoined (2 ^ depth) nodes
    → Gathering depth i nodes opened known first out
    → Gathering depth (i + 1) nodes opened (parents known) (first / 2)
    (out ++ map (λ place. get_or nodes (first + place) []) (missing known))
gathering_more depth i nodes opened known first out l joined h =
    let d = depth - (i + 1) in
    let up = above_it depth i l in
    let double : 2 ^ suc d ≡ 2 * 2 ^ d = pow-suc 2 d ∙ omega arith in
    let start : first ≡ 2 * 2 ^ d = h.start ∙ ap (λ n. 2 ^ n) up ∙ double in
    let half : first / 2 ≡ 2 ^ d = omega arith in
    let level = next_level depth i known l h.level in
    let most : 2 ^ suc d ≤ 2 ^ depth = pow-le-pow_right (omega arith) (omega arith) in
    let f = λ (j : ℕ). get_or nodes (first + j) [] in
    let pos = pow_pos d in
    let over : (j : ℕ) → j < 2 ^ d → level_over f j ≡ get_or nodes (first / 2 + j) [] = λ j low.
    let k = first / 2 + j in
    ap (λ n. node_hash (get_or nodes n []) (f (2 * j + 1))) (omega arith)
    ∙ ap (λ n. node_hash (get_or nodes (2 * k) []) (get_or nodes n [])) (omega arith)
    ∙ sym (joined k (omega arith) (omega arith)) in
    record {
      level = level;
      start = half;
      so_far = append_assoc out (map f (missing known))
          (shared_nodes d (λ j. get_or nodes (first / 2 + j) []) (parents known))
          ∙ ap (λ xs. out ++ (map f (missing known) ++ xs))
          (sym (shared_same d (level_over f) (λ j. get_or nodes (first / 2 + j) [])
          (parents known) level over))
          ∙ ap (λ n. out ++ shared_nodes n f known) (sym up) ∙ h.so_far;
    }

pub gathering_ends : (depth i : ℕ) (nodes : List (List ℕ)) (opened known : List ℕ) (first : ℕ)
    (out : List (List ℕ)) → depth ≤ i → AreOpened depth opened
    → Gathering depth i nodes opened known first out
    → out ≡ shared_nodes depth (λ j. get_or (drop (2 ^ depth) nodes) j []) opened
gathering_ends depth i nodes opened known first out le opens h =
    let none : depth - i ≡ 0 = omega arith in
    sym (append-nil out)
    ∙ ap (λ d. out ++ shared_nodes d (λ j. get_or nodes (first + j) []) known) (sym none)
    ∙ h.so_far
    ∙ shared_same depth (λ j. get_or nodes (2 ^ depth + j) [])
    (λ j. get_or (drop (2 ^ depth) nodes) j []) opened opens
    (λ j l. sym (get_or-drop (2 ^ depth) nodes j []))

pub gathering_as : (depth i : ℕ) (nodes : List (List ℕ)) (opened known xs : List ℕ) (first : ℕ)
    (out ys : List (List ℕ)) → xs ≡ known → ys ≡ out
    → Gathering depth i nodes opened known first out → Gathering depth i nodes opened xs first ys
gathering_as depth i nodes opened known xs first out ys e f h =
    let First : List ℕ → Type 0 = λ a. Gathering depth i nodes opened a first ys in
    let Second : List (List ℕ) → Type 0 = λ a. Gathering depth i nodes opened known first a in
    subst First (sym e) (subst Second (sym f) h)

-- the missing places of a level lie in it
pub level_within : (depth i : ℕ) (nodes : List (List ℕ)) (opened known : List ℕ) (first : ℕ)
    (out : List (List ℕ)) → i < depth → length nodes ≡ 2 * 2 ^ depth
    → Gathering depth i nodes opened known first out
    → All (λ place. first + place < length nodes) (missing known)
level_within depth i nodes opened known first out l count h =
    let d = depth - (i + 1) in
    let up = above_it depth i l in
    let double : 2 ^ suc d ≡ 2 * 2 ^ d = pow-suc 2 d ∙ omega arith in
    let start : first ≡ 2 * 2 ^ d = h.start ∙ ap (λ n. 2 ^ n) up ∙ double in
    let most : 2 ^ suc d ≤ 2 ^ depth = pow-le-pow_right (omega arith) (omega arith) in
    let Opened : ℕ → Type 0 = λ n. AreOpened n known in
    let here = subst Opened up h.level in
    let below =
    missing_below known (2 ^ d) known
    (recursion_from_All (λ y. y < 2 * 2 ^ d) known (within_double d known here.within)) in
    All-weaker (λ place. place < 2 * 2 ^ d) (λ place. first + place < length nodes)
    (λ x low. omega arith) (missing known)
    (All-from_recursion (λ y. y < 2 * 2 ^ d) (missing known) below)
