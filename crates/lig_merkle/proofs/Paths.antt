-- Paths lead to the root.
use Rattle.std.proofs.Common.{◌≡◌, ℕ, zero, suc, ◌+◌, ◌-◌, ◌*◌, ◌/◌, ◌%◌, ◌^◌, ◌<◌, List, [], ◌∷◌}
use Rattle.std.proofs.Common.{◌++◌, length, take, drop, get_or, cond, eqb, ltb, refl, sym, ap, ◌∙◌}
use Rattle.std.proofs.Common.{arith, ⊎_elim, true, false}
use Rattle.std.proofs.Math.Nat.{pow-suc, div-eq_of_lt, add-div_right}
use Rattle.std.proofs.lemmas.Bool.{cases_lt, lt-ltb, le-ltb}
use Rattle.std.proofs.lemmas.Nat.{shr-shr}
use Rattle.std.proofs.lemmas.List.{length_push, get_or-take, get_or-drop}
use Rattle.lig_merkle.specs.Merkle.{root_of, root_at, path_at, node_hash, PathLeadsToRoot}

-- the side on which a hash stands at the index i
abbrev pub parent : ℕ → List ℕ → List ℕ → List ℕ
parent i hash sibling = cond (eqb (i % 2) 0) (node_hash hash sibling) (node_hash sibling hash)

-- bits of the index past the path's length don't count
pub root_of-low : (path : List (List ℕ)) (hash : List ℕ) (i k : ℕ)
    → root_of hash (i + 2 ^ length path * k) path ≡ root_of hash i path
root_of-low [] hash i k = refl
root_of-low (s ∷ path) hash i k =
    let p : 2 ^ suc (length path) * k ≡ 2 * (2 ^ length path * k) =
    ap (λ n. n * k) (pow-suc 2 (length path)) ∙ omega arith in
    let side : (i + 2 ^ suc (length path) * k) % 2 ≡ i % 2 = omega arith in
    let up : (i + 2 ^ suc (length path) * k) / 2 ≡ i / 2 + 2 ^ length path * k = omega arith in
    rw (side, up) (root_of-low path (parent i hash s) (i / 2) k)

-- one sibling more
pub root_of-push : (path : List (List ℕ)) (hash s : List ℕ) (i : ℕ)
    → root_of hash i (path ++ s ∷ []) ≡ parent (i / 2 ^ length path) (root_of hash i path) s
root_of-push [] hash s i = let e : i / 1 ≡ i = omega arith in rw e
root_of-push (t ∷ path) hash s i =
    let e : i / 2 / 2 ^ length path ≡ i / 2 ^ suc (length path) =
    shr-shr i 1 (length path) ∙ ap (λ n. i / 2 ^ n) (omega arith) in
    root_of-push path (parent i hash t) s (i / 2)
    ∙ ap (λ n. parent n (root_of hash i (t ∷ path)) s) e

pub length-path_at : (depth : ℕ) (hashes : List (List ℕ)) (i : ℕ) → length (path_at depth hashes i)
    ≡ depth
length-path_at zero hashes i = refl
length-path_at (suc d) hashes i =
    elim (ltb i (2 ^ d)) as
    (λ b. length
    (cond b (path_at d (take (2 ^ d) hashes) i ++ root_at d (drop (2 ^ d) hashes) ∷ [])
    (path_at d (drop (2 ^ d) hashes) (i - 2 ^ d) ++ root_at d (take (2 ^ d) hashes) ∷ []))
    ≡ suc d) [
      | true ↦ omega (
        arith,
        length_push (path_at d (take (2 ^ d) hashes) i) (root_at d (drop (2 ^ d) hashes)),
        length-path_at d (take (2 ^ d) hashes) i,
      )
      | false ↦
          omega (
            arith,
            length_push (path_at d (drop (2 ^ d) hashes) (i - 2 ^ d))
                (root_at d (take (2 ^ d) hashes)),
            length-path_at d (drop (2 ^ d) hashes) (i - 2 ^ d),
          )
    ]

div_small : (i n : ℕ) → i < n → i / n ≡ 0
div_small i n h = div-eq_of_lt h

div_next : (i n : ℕ) → i < n → (i + n) / n ≡ 1
div_next i n h =
    let p : 0 < n = omega arith in add-div_right i p ∙ ap (λ x. x + 1) (div_small i n h)

-- a sibling more than a path of d siblings, on the left side
on_left : (d : ℕ) (path : List (List ℕ)) (hash s : List ℕ) (i : ℕ) → length path ≡ d → i < 2 ^ d
    → root_of hash i (path ++ s ∷ []) ≡ node_hash (root_of hash i path) s
on_left d path hash s i e h =
    let up : i / 2 ^ length path ≡ 0 = rw e (div_small i (2 ^ d) h) in
    root_of-push path hash s i ∙ ap (λ n. parent n (root_of hash i path) s) up

-- and on the right side
on_right : (d : ℕ) (path : List (List ℕ)) (hash s : List ℕ) (i : ℕ) → length path ≡ d → i < 2 ^ d
    → root_of hash (i + 2 ^ d) (path ++ s ∷ []) ≡ node_hash s (root_of hash i path)
on_right d path hash s i e h =
    let up : (i + 2 ^ d) / 2 ^ length path ≡ 1 = rw e (div_next i (2 ^ d) h) in
    let low : root_of hash (i + 2 ^ d) path ≡ root_of hash i path =
    ap (λ n. root_of hash n path) (ap (λ n. i + n) (ap (λ n. 2 ^ n) (sym e) ∙ omega arith))
    ∙ root_of-low path hash i 1 in
    root_of-push path hash s (i + 2 ^ d) ∙ ap (λ n. parent n (root_of hash (i + 2 ^ d) path) s) up
    ∙ ap (λ r. node_hash s r) low

pub leads_to_root : PathLeadsToRoot
leads_to_root zero i hashes h = let e : i ≡ 0 = omega arith in ap (λ n. get_or hashes n []) e
leads_to_root (suc d) i hashes h =
    let p : 2 ^ suc d ≡ 2 ^ d * 2 = pow-suc 2 d in
    let front = take (2 ^ d) hashes in
    let back = drop (2 ^ d) hashes in
    ⊎_elim (λ l.
    let e : ltb i (2 ^ d) ≡ true = lt-ltb i (2 ^ d) l in
    let below : root_of (get_or hashes i []) i (path_at d front i) ≡ root_at d front =
    ap (λ x. root_of x i (path_at d front i)) (sym (get_or-take (2 ^ d) hashes i [] l))
    ∙ leads_to_root d i front l in
    ap (λ b. root_of (get_or hashes i []) i
    (cond b (path_at d front i ++ root_at d back ∷ [])
    (path_at d back (i - 2 ^ d) ++ root_at d front ∷ []))) e
    ∙ on_left d (path_at d front i) (get_or hashes i []) (root_at d back) i
    (length-path_at d front i) l
    ∙ ap (λ r. node_hash r (root_at d back)) below)
    (λ g.
    let e : ltb i (2 ^ d) ≡ false = le-ltb i (2 ^ d) g in
    let j = i - 2 ^ d in
    let small : j < 2 ^ d = omega arith in
    let same : i ≡ j + 2 ^ d = omega arith in
    let place : get_or hashes i [] ≡ get_or back j [] =
    ap (λ n. get_or hashes n []) (omega arith) ∙ sym (get_or-drop (2 ^ d) hashes j []) in
    let below : root_of (get_or hashes i []) j (path_at d back j) ≡ root_at d back =
    ap (λ x. root_of x j (path_at d back j)) place ∙ leads_to_root d j back small in
    ap (λ b. root_of (get_or hashes i []) i
    (cond b (path_at d front i ++ root_at d back ∷ [])
    (path_at d back j ++ root_at d front ∷ []))) e
    ∙ ap (λ n. root_of (get_or hashes i []) n (path_at d back j ++ root_at d front ∷ [])) same
    ∙ on_right d (path_at d back j) (get_or hashes i []) (root_at d front) j
    (length-path_at d back j) small
    ∙ ap (λ r. node_hash (root_at d front) r) below)
    (cases_lt i (2 ^ d))
