-- The nodes of a tree that is kept in one list.
use Rattle.std.proofs.Common.{◌≡◌, ℕ, zero, suc, ◌+◌, ◌-◌, ◌*◌, ◌/◌, ◌%◌, ◌^◌, ◌<◌, ◌≤◌, List, []}
use Rattle.std.proofs.Common.{◌∷◌, ◌++◌, length, take, drop, get_or, cond, eqb, ltb, refl, sym, ap}
use Rattle.std.proofs.Common.{subst, ◌∙◌, arith, inl, inr, ⊎_elim, true, false, ◌⊎◌}
use Rattle.std.proofs.Math.Nat.{pow-suc, pow-le-pow_right}
use Rattle.std.proofs.lemmas.Bool.{cases_lt, lt-ltb, le-ltb}
use Rattle.std.proofs.lemmas.Nat.{pow_pos, pow-add, pow_below, shr-shr, mod-pow-add, le-div}
use Rattle.std.proofs.lemmas.Nat.{div_below, mod_below, shr_high, mod_low}
use Rattle.std.proofs.lemmas.List.{length-drop, get_or-take, get_or-drop, take-take, drop-take}
use Rattle.std.proofs.lemmas.List.{drop-drop}
use Rattle.lig_merkle.specs.Merkle.{root_at, path_at, node_hash}
use Rattle.lig_merkle.specs.Nodes.{AreJoined, sibling_of}

double : (d : ℕ) → 2 ^ suc d ≡ 2 ^ d + 2 ^ d
double d = pow-suc 2 d ∙ omega arith

front : (d : ℕ) (hashes : List (List ℕ)) → take (2 ^ d) (take (2 ^ suc d) hashes)
    ≡ take (2 ^ d) hashes
front d hashes = let p = double d in take-take (2 ^ d) (2 ^ suc d) hashes (omega arith)

back : (d : ℕ) (hashes : List (List ℕ)) → drop (2 ^ d) (take (2 ^ suc d) hashes)
    ≡ take (2 ^ d) (drop (2 ^ d) hashes)
back d hashes = ap (λ n. drop (2 ^ d) (take n hashes)) (double d) ∙ drop-take (2 ^ d) (2 ^ d) hashes

-- only the first 2 ^ d hashes count
pub root_at-take : (d : ℕ) (hashes : List (List ℕ)) → root_at d (take (2 ^ d) hashes)
    ≡ root_at d hashes
root_at-take zero hashes = get_or-take 1 hashes 0 [] (omega arith)
root_at-take (suc d) hashes =
    rw (front d hashes, back d hashes) (rw (root_at-take d (drop (2 ^ d) hashes)) refl)

pub path_at-take : (d : ℕ) (hashes : List (List ℕ)) (i : ℕ) → path_at d (take (2 ^ d) hashes) i
    ≡ path_at d hashes i
path_at-take zero hashes i = refl
path_at-take (suc d) hashes i =
    rw (front d hashes, back d hashes)
    (rw (root_at-take d (drop (2 ^ d) hashes), path_at-take d (drop (2 ^ d) hashes) (i - 2 ^ d))
    refl)

-- a place with h levels below it has the root of the leaves below it
pub below : (h j count i : ℕ) (nodes : List (List ℕ)) → AreJoined count nodes → count ≡ 2 ^ (h + j)
    → 1 ≤ i → i < 2 * 2 ^ j → get_or nodes i [] ≡ root_at h (drop (i * 2 ^ h) nodes)
below zero j count i nodes joined e p q =
    ap (λ n. get_or nodes n []) (omega arith) ∙ sym (get_or-drop (i * 1) nodes 0 [])
below (suc h) j count i nodes joined e p q =
    let wide : i * 2 ^ suc h ≡ (2 * i) * 2 ^ h = ap (λ n. i * n) (double h) ∙ omega arith in
    let level : count ≡ 2 ^ (h + suc j) = e ∙ ap (λ n. 2 ^ n) (omega arith) in
    let twice = double j in
    let most : 2 ^ suc j ≤ 2 ^ (h + suc j) = pow-le-pow_right (omega arith) (omega arith) in
    let left : get_or nodes (2 * i) [] ≡ root_at h (drop (i * 2 ^ suc h) nodes) =
    below h (suc j) count (2 * i) nodes joined level (omega arith) (omega arith)
    ∙ ap (λ n. root_at h (drop n nodes)) (sym wide) in
    let next : (2 * i + 1) * 2 ^ h ≡ i * 2 ^ suc h + 2 ^ h = omega (arith, wide) in
    let right : get_or nodes (2 * i + 1) []
    ≡ root_at h (drop (2 ^ h) (drop (i * 2 ^ suc h) nodes)) =
    below h (suc j) count (2 * i + 1) nodes joined level (omega arith) (omega arith)
    ∙ ap (λ n. root_at h (drop n nodes)) next
    ∙ ap (λ x. root_at h x) (sym (drop-drop (2 ^ h) (i * 2 ^ suc h) nodes)) in
    joined i p (omega arith)
    ∙ ap (λ x. node_hash x (get_or nodes (2 * i + 1) []))
    (left ∙ sym (root_at-take h (drop (i * 2 ^ suc h) nodes)))
    ∙ ap (λ x. node_hash (root_at h (take (2 ^ h) (drop (i * 2 ^ suc h) nodes))) x) right

-- the path of a leaf in the left half below the place 2 * q
path_left : (k q r : ℕ) (nodes : List (List ℕ)) → r < 2 ^ k
    → path_at (suc k) (drop (q * 2 ^ suc k) nodes) r ≡ path_at k (drop (2 * q * 2 ^ k) nodes) r
    ++ root_at k (drop ((2 * q + 1) * 2 ^ k) nodes) ∷ []
path_left k q r nodes h =
    let hashes = drop (q * 2 ^ suc k) nodes in
    let p = double k in
    let start : q * 2 ^ suc k ≡ 2 * q * 2 ^ k = ap (λ n. q * n) p ∙ omega arith in
    let next : q * 2 ^ suc k + 2 ^ k ≡ (2 * q + 1) * 2 ^ k = omega (arith, start) in
    let test : ltb r (2 ^ k) ≡ true = lt-ltb r (2 ^ k) h in
    let other : drop (2 ^ k) hashes ≡ drop ((2 * q + 1) * 2 ^ k) nodes =
    drop-drop (2 ^ k) (q * 2 ^ suc k) nodes ∙ ap (λ n. drop n nodes) next in
    ap (λ b. cond b (path_at k (take (2 ^ k) hashes) r ++ root_at k (drop (2 ^ k) hashes) ∷ [])
    (path_at k (drop (2 ^ k) hashes) (r - 2 ^ k) ++ root_at k (take (2 ^ k) hashes) ∷ [])) test
    ∙ ap (λ x. x ++ root_at k (drop (2 ^ k) hashes) ∷ []) (path_at-take k hashes r
    ∙ ap (λ n. path_at k (drop n nodes) r) start)
    ∙ ap (λ x. path_at k (drop (2 * q * 2 ^ k) nodes) r ++ root_at k x ∷ []) other

-- and in the right half
path_right : (k q r : ℕ) (nodes : List (List ℕ))
    → path_at (suc k) (drop (q * 2 ^ suc k) nodes) (2 ^ k + r)
    ≡ path_at k (drop ((2 * q + 1) * 2 ^ k) nodes) r ++ root_at k (drop (2 * q * 2 ^ k) nodes) ∷ []
path_right k q r nodes =
    let hashes = drop (q * 2 ^ suc k) nodes in
    let p = double k in
    let start : q * 2 ^ suc k ≡ 2 * q * 2 ^ k = ap (λ n. q * n) p ∙ omega arith in
    let next : q * 2 ^ suc k + 2 ^ k ≡ (2 * q + 1) * 2 ^ k = omega (arith, start) in
    let i = 2 ^ k + r in
    let test : ltb i (2 ^ k) ≡ false = le-ltb i (2 ^ k) (omega arith) in
    let rest : i - 2 ^ k ≡ r = omega arith in
    let other : drop (2 ^ k) hashes ≡ drop ((2 * q + 1) * 2 ^ k) nodes =
    drop-drop (2 ^ k) (q * 2 ^ suc k) nodes ∙ ap (λ n. drop n nodes) next in
    ap (λ b. cond b (path_at k (take (2 ^ k) hashes) i ++ root_at k (drop (2 ^ k) hashes) ∷ [])
    (path_at k (drop (2 ^ k) hashes) (i - 2 ^ k) ++ root_at k (take (2 ^ k) hashes) ∷ [])) test
    ∙ ap (λ x. path_at k (drop (2 ^ k) hashes) x ++ root_at k (take (2 ^ k) hashes) ∷ []) rest
    ∙ ap (λ x. path_at k x r ++ root_at k (take (2 ^ k) hashes) ∷ []) other
    ∙ ap (λ x. path_at k (drop ((2 * q + 1) * 2 ^ k) nodes) r ++ x ∷ []) (root_at-take k hashes
    ∙ ap (λ n. root_at k (drop n nodes)) start)

-- after k levels the path of a leaf, and the place that it has come to
pub record Climbs (depth : ℕ) (nodes : List (List ℕ)) (index k at : ℕ)
    (path : List (List ℕ)) : Type 0 where
  pub place : at ≡ (2 ^ depth + index) / 2 ^ k
  pub siblings : path ≡ path_at k (drop (at * 2 ^ k) nodes) ((2 ^ depth + index) % 2 ^ k)

pub begins : (depth : ℕ) (nodes : List (List ℕ)) (index at : ℕ) → at ≡ 2 ^ depth + index
    → Climbs depth nodes index 0 at []
begins depth nodes index at e = record { place = omega arith; siblings = refl }

-- the place lies between the root and the leaves
pub between : (depth k j : ℕ) (nodes : List (List ℕ)) (index at : ℕ) (path : List (List ℕ))
    → depth ≡ suc k + j → index < 2 ^ depth → Climbs depth nodes index k at path → (2 * 2 ^ j ≤ at)
    × (at < 4 * 2 ^ j)
between depth k j nodes index at path e h climbs =
    let whole : 2 ^ depth ≡ 2 * (2 ^ j * 2 ^ k) = ap (λ n. 2 ^ n) e ∙ ap (λ n. 2 ^ n) (omega arith)
    ∙ pow-add 2 (suc j) k ∙ ap (λ n. n * 2 ^ k) (double j) ∙ omega arith in
    let pos = pow_pos k in
    let place = climbs.place in
    let low : 2 * 2 ^ j ≤ (2 ^ depth + index) / 2 ^ k =
    le-div (2 * 2 ^ j) (2 ^ depth + index) (2 ^ k) pos (omega (arith, whole)) in
    let high : (2 ^ depth + index) / 2 ^ k < 4 * 2 ^ j =
    div_below (2 ^ depth + index) (2 ^ k) (4 * 2 ^ j) pos (omega (arith, whole)) in
    (omega (arith, low, place), omega (arith, high, place))

-- even or odd
pub parity : (n : ℕ) → (n % 2 ≡ 0) ⊎ (n % 2 ≡ 1)
parity n =
    ⊎_elim (λ l. inl (omega arith)) (λ g. let b = mod_below n 2 (omega arith) in inr (omega arith))
    (cases_lt (n % 2) 1)

-- the root of the place beside, on each side
beside : (depth k j at : ℕ) (nodes : List (List ℕ)) → AreJoined (2 ^ depth) nodes
    → depth ≡ suc k + j → 2 ≤ at → at < 4 * 2 ^ j
    → get_or nodes at [] ≡ root_at k (drop (at * 2 ^ k) nodes)
beside depth k j at nodes joined e p q =
    let level : 2 ^ depth ≡ 2 ^ (k + suc j) = ap (λ n. 2 ^ n) (e ∙ omega arith) in
    let twice = double j in
    below k (suc j) (2 ^ depth) at nodes joined level (omega arith) (omega arith)

pub climbs_more : (depth k j : ℕ) (nodes : List (List ℕ)) (index at : ℕ) (path : List (List ℕ))
    → AreJoined (2 ^ depth) nodes → depth ≡ suc k + j → index < 2 ^ depth
    → Climbs depth nodes index k at path
    → Climbs depth nodes index (suc k) (at / 2) (path ++ get_or nodes (sibling_of at) [] ∷ [])
climbs_more depth k j nodes index at path joined e h climbs =
    let n = 2 ^ depth + index in
    let bounds = between depth k j nodes index at path e h climbs in
    let pos = pow_pos j in
    let low : 2 ≤ at = omega (arith, bounds) in
    let high : at < 4 * 2 ^ j = bounds.1 in
    let q = at / 2 in
    let r = n % 2 ^ k in
    let small : r < 2 ^ k = mod_below n (2 ^ k) (pow_pos k) in
    let up : q ≡ n / 2 ^ suc k =
    ap (λ x. x / 2) climbs.place ∙ shr-shr n k 1 ∙ ap (λ x. n / 2 ^ x) (omega arith) in
    let low_bits : n % 2 ^ suc k ≡ at % 2 * 2 ^ k + r = ap (λ x. n % 2 ^ x) (omega arith)
    ∙ mod-pow-add n 1 k ∙ ap (λ x. x % 2 * 2 ^ k + r) (sym climbs.place) in
    record {
      place = up;
      siblings = ⊎_elim (λ even.
          let here : at ≡ 2 * q = omega arith in
          let bits : n % 2 ^ suc k ≡ r = low_bits ∙ ap (λ x. x * 2 ^ k + r) even ∙ omega arith in
          let other : get_or nodes (sibling_of at) []
          ≡ root_at k (drop ((2 * q + 1) * 2 ^ k) nodes) =
          ap (λ b. get_or nodes (cond (eqb b 0) (at + 1) (at - 1)) []) even
          ∙ beside depth k j (at + 1) nodes joined e (omega arith) (omega arith)
          ∙ ap (λ x. root_at k (drop ((x + 1) * 2 ^ k) nodes)) here in
          ap (λ x. x ++ get_or nodes (sibling_of at) [] ∷ []) (climbs.siblings
          ∙ ap (λ x. path_at k (drop (x * 2 ^ k) nodes) r) here)
          ∙ ap (λ x. path_at k (drop (2 * q * 2 ^ k) nodes) r ++ x ∷ []) other
          ∙ sym (path_left k q r nodes small)
          ∙ ap (λ x. path_at (suc k) (drop (q * 2 ^ suc k) nodes) x) (sym bits))
          (λ odd.
          let here : at ≡ 2 * q + 1 = omega arith in
          let bits : n % 2 ^ suc k ≡ 2 ^ k + r =
          low_bits ∙ ap (λ x. x * 2 ^ k + r) odd ∙ omega arith in
          let other : get_or nodes (sibling_of at) [] ≡ root_at k (drop (2 * q * 2 ^ k) nodes) =
          ap (λ b. get_or nodes (cond (eqb b 0) (at + 1) (at - 1)) []) odd
          ∙ beside depth k j (at - 1) nodes joined e (omega arith) (omega arith)
          ∙ ap (λ x. root_at k (drop (x * 2 ^ k) nodes)) (omega arith) in
          ap (λ x. x ++ get_or nodes (sibling_of at) [] ∷ []) (climbs.siblings
          ∙ ap (λ x. path_at k (drop (x * 2 ^ k) nodes) r) here)
          ∙ ap (λ x. path_at k (drop ((2 * q + 1) * 2 ^ k) nodes) r ++ x ∷ []) other
          ∙ sym (path_right k q r nodes)
          ∙ ap (λ x. path_at (suc k) (drop (q * 2 ^ suc k) nodes) x) (sym bits))
          (parity at);
    }

-- at the root the path is whole
pub climbs_end : (depth : ℕ) (nodes : List (List ℕ)) (index at : ℕ) (path : List (List ℕ))
    → index < 2 ^ depth → Climbs depth nodes index depth at path
    → path ≡ path_at depth (drop (2 ^ depth) nodes) index
climbs_end depth nodes index at path h climbs =
    let top : at * 2 ^ depth ≡ 2 ^ depth =
    ap (λ x. x * 2 ^ depth) (climbs.place ∙ ap (λ x. x / 2 ^ depth) (omega arith)
    ∙ shr_high 1 depth index h) ∙ omega arith in
    let low : (2 ^ depth + index) % 2 ^ depth ≡ index =
    ap (λ x. x % 2 ^ depth) (omega arith) ∙ mod_low 1 depth index h in
    climbs.siblings ∙ ap (λ x. path_at depth (drop x nodes) ((2 ^ depth + index) % 2 ^ depth)) top
    ∙ ap (λ x. path_at depth (drop (2 ^ depth) nodes) x) low

-- a power of two between 2 ^ e and 2 ^ (e + 1) is 2 ^ e
pub same_power : (d e n : ℕ) → n ≡ 2 ^ d → 2 ^ e ≤ n → n < 2 * 2 ^ e → e ≡ d
same_power d e n is low high =
    let twice = double e in
    ⊎_elim (λ l. let more = pow_below d e l in absurd (omega arith))
    (λ g. ⊎_elim (λ l. let more : 2 ^ suc e ≤ 2 ^ d = pow-le-pow_right (omega arith) l
    in absurd (omega arith)) (λ k. omega arith) (cases_lt e d))
    (cases_lt d e)

-- the leaves of a tree
pub length-leaves : (depth : ℕ) (nodes : List (List ℕ)) → length nodes ≡ 2 * 2 ^ depth
    → length (drop (2 ^ depth) nodes) ≡ 2 ^ depth
length-leaves depth nodes e = omega (arith, length-drop (2 ^ depth) nodes)

-- a place and the one beside it are of one level
pub sibling_within : (at n : ℕ) → at < 2 * n → sibling_of at < 2 * n
sibling_within at n h =
    let Within : ℕ → Type 0 = λ b. cond (eqb b 0) (at + 1) (at - 1) < 2 * n in
    ⊎_elim (λ even. subst Within (sym even) (omega arith))
    (λ odd. subst Within (sym odd) (omega arith)) (parity at)
