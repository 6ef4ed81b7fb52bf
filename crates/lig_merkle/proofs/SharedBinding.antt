-- Openings of several leaves with shared nodes bind.
use Rattle.std.proofs.Common.{◌≡◌, ◌≢◌, ℕ, zero, suc, ◌+◌, ◌-◌, ◌*◌, ◌/◌, ◌%◌, ◌<◌, ◌≤◌, List}
use Rattle.std.proofs.Common.{[], ◌∷◌, ◌++◌, Bool, true, false, cond, eqb, length, map, take}
use Rattle.std.proofs.Common.{drop, get_or, sym, ap, subst, ◌∙◌, arith, ⊎_elim}
use Rattle.std.specs.List.{dedup_from}
use Rattle.std.proofs.lemmas.Bool.{cases_Bool, cases_lt, eqb-true}
use Rattle.std.proofs.lemmas.List.{length-map, get_or-map}
use Rattle.std.proofs.lemmas.Simd.{map-map}
use Rattle.sha2.specs.Sha256.{sha256}
use Rattle.lig_merkle.specs.Merkle.{leaf_message, node_message}
use Rattle.lig_merkle.specs.Shared.{AreOpened, is_known, missing, parents, hash_at}
use Rattle.lig_merkle.specs.Shared.{parent_hashes, root_of_many}
use Rattle.lig_merkle.specs.Binding.{Collide, messages_above, levels_up}
use Rattle.lig_merkle.specs.Binding.{SharedOpeningsBind}
use Rattle.lig_merkle.proofs.Known.{known_head, known_tail, known_cases, known_at, known_place}
use Rattle.lig_merkle.proofs.Known.{rises, parents_opened}
use Rattle.lig_merkle.proofs.Walk.{hash_in_front}
use Rattle.lig_merkle.proofs.Binding.{digest_length, column_same, over_same, equal_or_not}

-- what is above a known place is known above
known_dedup : (k : ℕ) (xs : List ℕ) (q : ℕ) → is_known (k ∷ xs) q ≡ true
    → is_known (dedup_from eqb k xs) q ≡ true
known_dedup k [] q h = h
known_dedup k (x ∷ xs) q h =
    let Known : Bool → Type 0 =
    λ b. is_known (cond b (dedup_from eqb k xs) (k ∷ dedup_from eqb x xs)) q ≡ true in
    ⊎_elim
    (λ e. let same : x ≡ k = eqb-true x k e in
    subst Known (sym e) (known_dedup k xs q (⊎_elim
    (λ here. known_head k xs q here)
    (λ t. ⊎_elim (λ here. known_head k xs q (sym same ∙ here))
    (λ further. known_tail k xs q further) (known_cases x xs q t))
    (known_cases k (x ∷ xs) q h))))
    (λ e. subst Known (sym e) (⊎_elim
    (λ here. known_head k (dedup_from eqb x xs) q here)
    (λ t. known_tail k (dedup_from eqb x xs) q (known_dedup x xs q t))
    (known_cases k (x ∷ xs) q h)))
    (cases_Bool (eqb x k))

above_known : (known : List ℕ) (q : ℕ) → q < length known
    → is_known (parents known) (get_or known q 0 / 2) ≡ true
above_known [] q inside = absurd (omega arith)
above_known (x ∷ xs) q inside =
    let half = λ (place : ℕ). place / 2 in
    let whole = map half (x ∷ xs) in
    known_dedup (x / 2) (map half xs) (get_or (x ∷ xs) q 0 / 2)
    (known_at whole q (get_or (x ∷ xs) q 0 / 2) (omega (arith, length-map (x ∷ xs) half))
    (get_or-map half (x ∷ xs) q 0 0 inside))

-- the place above has another message where a known place has another digest
module _ (known : List ℕ) (depth : ℕ) (are : AreOpened depth known) (m n s t : List (List ℕ))
    (m_count : length m ≡ length known) (n_count : length n ≡ length known) (q k : ℕ)
    (inside : q < length known) (above : k < length (parents known))
    (is : get_or (parents known) k 0 ≡ get_or known q 0 / 2) where
  abbrev level : List (List ℕ) → List (List ℕ) → ℕ → List ℕ
  level messages nodes = hash_at (known ++ missing known) (map sha256 messages ++ nodes)

  abbrev message_at : List (List ℕ) → List (List ℕ) → ℕ → List ℕ
  message_at messages nodes place =
      node_message (level messages nodes (2 * place)) (level messages nodes (2 * place + 1))

  known_hash : (messages nodes : List (List ℕ)) → length messages ≡ length known
      → level messages nodes (get_or known q 0) ≡ sha256 (get_or messages q [])
  known_hash messages nodes count =
      hash_in_front known (missing known) (map sha256 messages) nodes q (get_or known q 0)
      (rises known are.rising) inside (length-map messages sha256 ∙ count) (omega arith)
      ∙ get_or-map sha256 messages q [] [] (omega arith)

  even_case : get_or known q 0 ≡ 2 * get_or (parents known) k 0
      → message_at m s (get_or (parents known) k 0) ≡ message_at n t (get_or (parents known) k 0)
      → sha256 (get_or m q []) ≡ sha256 (get_or n q [])
  even_case at same =
      let r = get_or (parents known) k 0 in
      let left = sym (ap (level m s) at) ∙ known_hash m s m_count in
      let right = sym (ap (level n t) at) ∙ known_hash n t n_count in
      over_same true (sha256 (get_or m q [])) (sha256 (get_or n q [])) (level m s (2 * r + 1))
      (level n t (2 * r + 1))
      (digest_length (get_or m q []) ∙ sym (digest_length (get_or n q [])))
      (sym (ap (λ (h : List ℕ). node_message h (level m s (2 * r + 1))) left) ∙ same
      ∙ ap (λ (h : List ℕ). node_message h (level n t (2 * r + 1))) right)

  odd_case : get_or known q 0 ≡ 2 * get_or (parents known) k 0 + 1
      → message_at m s (get_or (parents known) k 0) ≡ message_at n t (get_or (parents known) k 0)
      → sha256 (get_or m q []) ≡ sha256 (get_or n q [])
  odd_case at same =
      let r = get_or (parents known) k 0 in
      let left = sym (ap (level m s) at) ∙ known_hash m s m_count in
      let right = sym (ap (level n t) at) ∙ known_hash n t n_count in
      over_same false (sha256 (get_or m q [])) (sha256 (get_or n q [])) (level m s (2 * r))
      (level n t (2 * r))
      (digest_length (get_or m q []) ∙ sym (digest_length (get_or n q [])))
      (sym (ap (λ (h : List ℕ). node_message (level m s (2 * r)) h) left) ∙ same
      ∙ ap (λ (h : List ℕ). node_message (level n t (2 * r)) h) right)

  pub differ_above : sha256 (get_or m q []) ≢ sha256 (get_or n q [])
      → get_or (messages_above known m s) k [] ≢ get_or (messages_above known n t) k []
  differ_above differ e =
      let r = get_or (parents known) k 0 in
      let place = get_or known q 0 in
      let same : message_at m s r ≡ message_at n t r =
      sym (get_or-map (message_at m s) (parents known) k 0 [] above) ∙ e
      ∙ get_or-map (message_at n t) (parents known) k 0 [] above in
      ⊎_elim
      (λ even. differ (even_case (omega arith) same))
      (λ odd. differ (odd_case (omega arith) same))
      (cases_lt (place % 2) 1)

-- the digests of the messages above are the hashes above
hashed_above : (known : List ℕ) (messages nodes : List (List ℕ))
    → parent_hashes known (map sha256 messages) nodes
    ≡ map sha256 (messages_above known messages nodes)
hashed_above known messages nodes =
    let level = hash_at (known ++ missing known) (map sha256 messages ++ nodes) in
    sym (map-map sha256 (λ (place : ℕ). node_message (level (2 * place)) (level (2 * place + 1)))
    (parents known))

-- at depth 0 there is one place
only_one : (known : List ℕ) (q : ℕ) → AreOpened 0 known → q < length known → q ≡ 0
only_one known q are inside = ⊎_elim
    (λ some.
    let next : q - 1 + 1 ≡ q = omega arith in
    let up = are.rising (q - 1) (omega arith) in
    let same = ap (λ (i : ℕ). get_or known i 0) next in
    let low : get_or known q 0 < 1 = are.within q 0 inside in
    absurd (omega arith))
    (λ none. omega arith)
    (cases_lt 0 q)

pub collide_many : (depth : ℕ) (known : List ℕ) (m n s t : List (List ℕ)) (q : ℕ)
    → AreOpened depth known → length m ≡ length known → length n ≡ length known
    → q < length known → get_or m q [] ≢ get_or n q []
    → root_of_many depth known (map sha256 m) s ≡ root_of_many depth known (map sha256 n) t
    → (level : ℕ) × (level ≤ depth) × (place : ℕ)
    × Collide (get_or (get_or (levels_up depth known m s) level []) place [])
    (get_or (get_or (levels_up depth known n t) level []) place [])
collide_many zero known m n s t q are m_count n_count inside differ same =
    let first : q ≡ 0 = only_one known q are inside in
    let Differ : ℕ → Type 0 = λ i. get_or m i [] ≢ get_or n i [] in (
      0,
      omega arith,
      0,
      record {
        differ = subst Differ first differ;
        digest = sym (get_or-map sha256 m 0 [] [] (omega arith)) ∙ same
            ∙ get_or-map sha256 n 0 [] [] (omega arith);
      },
    )
collide_many (suc depth) known m n s t q are m_count n_count inside differ same =
    let count = length (missing known) in
    let in_m = messages_above known m (take count s) in
    let in_n = messages_above known n (take count t) in
    let up = parents known in
    ⊎_elim
    (λ here. (0, omega arith, q, record { differ = differ; digest = here }))
    (λ further.
    let at = known_place up (get_or known q 0 / 2) (above_known known q inside) in
    let rest =
    collide_many depth up in_m in_n (drop count s) (drop count t) at.0
    (parents_opened depth known are)
    (length-map up (λ (place : ℕ).
    node_message (hash_at (known ++ missing known) (map sha256 m ++ take count s) (2 * place))
    (hash_at (known ++ missing known) (map sha256 m ++ take count s) (2 * place + 1))))
    (length-map up (λ (place : ℕ).
    node_message (hash_at (known ++ missing known) (map sha256 n ++ take count t) (2 * place))
    (hash_at (known ++ missing known) (map sha256 n ++ take count t) (2 * place + 1))))
    at.1
    (differ_above known (suc depth) are m n (take count s) (take count t) m_count n_count q at.0
    inside at.1 at.2 further)
    (sym (ap (λ (hashes : List (List ℕ)). root_of_many depth up hashes (drop count s))
    (hashed_above known m (take count s)))
    ∙ same
    ∙ ap (λ (hashes : List (List ℕ)). root_of_many depth up hashes (drop count t))
    (hashed_above known n (take count t))) in
    let low = rest.1 in
    (suc rest.0, omega arith, rest.2, rest.3))
    (equal_or_not (sha256 (get_or m q [])) (sha256 (get_or n q [])))

pub shared_binds : SharedOpeningsBind
shared_binds depth opened a b from_a from_b q are in_a in_b inside differ same =
    let a_count = in_a.count in
    let b_count = in_b.count in
    let message_a = get_or-map leaf_message a q [] [] (omega arith) in
    let message_b = get_or-map leaf_message b q [] [] (omega arith) in
    collide_many depth opened (map leaf_message a) (map leaf_message b) from_a from_b q are
    (length-map a leaf_message ∙ a_count) (length-map b leaf_message ∙ b_count) inside
    (λ e. differ (column_same (get_or a q []) (get_or b q []) (in_a.words q [] (omega arith))
    (in_b.words q [] (omega arith))
    (ap (λ (xs : List ℕ). drop 1 xs) (sym message_a ∙ e ∙ message_b))))
    (ap (λ (hashes : List (List ℕ)). root_of_many depth opened hashes from_a)
    (map-map sha256 leaf_message a)
    ∙ same
    ∙ sym (ap (λ (hashes : List (List ℕ)). root_of_many depth opened hashes from_b)
    (map-map sha256 leaf_message b)))
