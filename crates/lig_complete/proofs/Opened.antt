-- The opened columns lead to the root.
use Rattle.std.proofs.Common.{◌≡◌, ℕ, zero, suc, ◌+◌, ◌*◌, ◌<◌, ◌≤◌, List, [], ◌∷◌, Bool, true}
use Rattle.std.proofs.Common.{cond, All, length, get_or, map, filter, refl, sym, ap, subst, ◌∙◌}
use Rattle.std.proofs.Common.{arith, zero-add, ⊎_elim}
use Rattle.std.specs.List.{range_with_len}
use Rattle.std.specs.List.Sorted.{IsStrictlyIncreasing}
use Rattle.std.proofs.lemmas.Bool.{cases_lt, cases_Bool, both_ways}
use Rattle.std.proofs.lemmas.List.{get_or-map}
use Rattle.std.proofs.lemmas.List.Elements.{All-head, All-tail, All-filter}
use Rattle.std.proofs.lemmas.List.FromFn.{length-range_with_len, get_or-range_with_len}
use Rattle.std.proofs.lemmas.List.FromFn.{get_or-map-range_with_len}
use Rattle.std.proofs.lemmas.List.Kept.{IsStrictlyIncreasing-filter}
use Rattle.std.proofs.lemmas.Simd.{map-map}
use Rattle.lig_layout.specs.declared.params.Params.{Params}
use Rattle.lig_layout.specs.Sizes.{IsParams}
use Rattle.lig_merkle.specs.Merkle.{leaf_hash, root_of, path_at}
use Rattle.lig_merkle.specs.Shared.{AreOpened, is_known, shared_nodes, root_of_many}
use Rattle.lig_merkle.proofs.Known.{known_head}
use Rattle.lig_merkle.proofs.Leading.{shared_nodes_lead}
use Rattle.lig_merkle.proofs.Paths.{leads_to_root}
use Rattle.lig_proof.specs.Columns.{Encoded, column_at, leaves, commitment}
use Rattle.lig_proof.specs.SharedProof.{opened_once}

map_agree : {X : Type 0} (n : ℕ) (f g : ℕ → X) (xs : List ℕ) → All (λ i. i < n) xs
    → ((i : ℕ) → i < n → f i ≡ g i) → map f xs ≡ map g xs
map_agree n f g [] low same = refl
map_agree n f g (x ∷ xs) low same =
    ap (λ y. y ∷ map f xs) (same x (All-head (λ i. i < n) x xs low))
    ∙ ap (λ ys. g x ∷ ys) (map_agree n f g xs (All-tail (λ i. i < n) x xs low) same)

-- ---- numbers that were drawn, in order and each once

range_rises : (n : ℕ) → IsStrictlyIncreasing (range_with_len 0 n)
range_rises n k low =
    let inside : k + 1 < n = omega (arith, length-range_with_len 0 n) in
    omega (
      arith,
      get_or-range_with_len 0 n k 0 (omega arith),
      get_or-range_with_len 0 n (k + 1) 0 inside,
    )

pub range_below : (n : ℕ) → All (λ i. i < n) (range_with_len 0 n)
range_below n k d low =
    let inside : k < n = omega (arith, length-range_with_len 0 n) in
    omega (arith, get_or-range_with_len 0 n k d inside)

-- a filter keeps something where one of the numbers passes
some_kept : (f : ℕ → Bool) (a n k : ℕ) → a ≤ k → k < a + n → f k ≡ true
    → 0 < length (filter f (range_with_len a n))
some_kept f a zero k from upto passes = absurd (omega arith)
some_kept f a (suc n) k from upto passes =
    let rest = filter f (range_with_len (a + 1) n) in
    let Some : Bool → Type 0 = λ b. 0 < length (cond b (a ∷ rest) rest) in
    ⊎_elim
    (λ yes. subst Some (sym yes) (omega arith))
    (λ no. subst Some (sym no) (⊎_elim
    (λ later. some_kept f (a + 1) n k (omega arith) (omega arith) passes)
    (λ here. let same : k ≡ a = omega arith
    in absurd (both_ways (f a) no (ap f (sym same) ∙ passes)))
    (cases_lt a k)))
    (cases_Bool (f a))

first_kept : (n : ℕ) (drawn : List ℕ) → 0 < length drawn → All (λ i. i < n) drawn
    → 0 < length (filter (is_known drawn) (range_with_len 0 n))
first_kept n [] some low = absurd (omega arith)
first_kept n (x ∷ xs) some low =
    some_kept (is_known (x ∷ xs)) 0 n x (omega arith)
    (let inside : x < n = All-head (λ i. i < n) x xs low in omega arith)
    (known_head x xs x refl)

pub once_opened : (p : Params) (drawn : List ℕ) → IsParams p → 0 < length drawn
    → All (λ i. i < 8 * p.l) drawn → AreOpened p.depth (opened_once p drawn)
once_opened p drawn h some low =
    let n = 8 * p.l in
    let Within : ℕ → Type 0 = λ m. All (λ i. i < m) (opened_once p drawn) in
    record {
      some = first_kept n drawn some low;
      rising = IsStrictlyIncreasing-filter (is_known drawn) (range_with_len 0 n) (range_rises n);
      within = subst Within (sym h.depth)
          (All-filter (is_known drawn) (λ i. i < n) (range_with_len 0 n) (range_below n));
    }

-- ---- ways to the root

module _ (p : Params) (e : Encoded) (h : IsParams p) where
  pub leaf_at : (i : ℕ) → i < 8 * p.l → get_or (leaves p e) i [] ≡ leaf_hash (column_at p e i)
  leaf_at i low =
      get_or-map-range_with_len (λ i. leaf_hash (column_at p e i)) 0 (8 * p.l) i i [] low
      (zero-add i)

  one_leads : (i : ℕ) → i < 8 * p.l
      → root_of (leaf_hash (column_at p e i)) i (path_at p.depth (leaves p e) i) ≡ commitment p e
  one_leads i low =
      let depth = h.depth in
      ap (λ (leaf : List ℕ). root_of leaf i (path_at p.depth (leaves p e) i)) (sym (leaf_at i low))
      ∙ leads_to_root p.depth i (leaves p e) (omega arith)

  -- each with its path
  pub each_leads : (drawn : List ℕ) (q : ℕ) → q < length drawn → All (λ i. i < 8 * p.l) drawn
      → root_of (leaf_hash (get_or (map (column_at p e) drawn) q [])) (get_or drawn q 0)
      (get_or (map (path_at p.depth (leaves p e)) drawn) q []) ≡ commitment p e
  each_leads drawn q inside low =
      let i = get_or drawn q 0 in
      ap (λ (column : List ℕ). root_of (leaf_hash column) i
      (get_or (map (path_at p.depth (leaves p e)) drawn) q []))
      (get_or-map (column_at p e) drawn q 0 [] inside)
      ∙ ap (λ (path : List (List ℕ)). root_of (leaf_hash (column_at p e i)) i path)
      (get_or-map (path_at p.depth (leaves p e)) drawn q 0 [] inside)
      ∙ one_leads i (low q 0 inside)

  -- all with the nodes that they share
  pub all_lead : (opened : List ℕ) → AreOpened p.depth opened → All (λ i. i < 8 * p.l) opened
      → root_of_many p.depth opened (map leaf_hash (map (column_at p e) opened))
      (shared_nodes p.depth (λ i. get_or (leaves p e) i []) opened) ≡ commitment p e
  all_lead opened are low =
      let leaf = λ (i : ℕ). get_or (leaves p e) i [] in
      let nodes = shared_nodes p.depth leaf opened in
      ap (λ (hashes : List (List ℕ)). root_of_many p.depth opened hashes nodes)
      (map-map leaf_hash (column_at p e) opened
      ∙ sym (map_agree (8 * p.l) leaf (λ i. leaf_hash (column_at p e i)) opened low leaf_at))
      ∙ shared_nodes_lead p.depth (leaves p e) opened are
