-- Openings bind.
use Rattle.std.proofs.Common.{◌≡◌, ◌≢◌, ℕ, zero, suc, ◌*◌, ◌/◌, ◌%◌, ◌^◌, ◌<◌, ◌≤◌, List, []}
use Rattle.std.proofs.Common.{◌∷◌, ◌++◌, Bool, true, false, cond, eqb, All, length, take, drop}
use Rattle.std.proofs.Common.{get_or, slice_index, refl, sym, ap, ◌∙◌, arith, ⊎_elim, ◌⊎◌, inl, inr}
use Rattle.std.specs.Int.{w32, w64, to_le_bytes, from_le_bytes, to_be_bytes}
use Rattle.std.specs.Str.{bytes_eq}
use Rattle.std.proofs.Math.Seq.{take-append_seam, drop-append_seam}
use Rattle.std.proofs.lemmas.Bool.{cases_Bool}
use Rattle.std.proofs.lemmas.Bool.Decides.{not_from_Decides}
use Rattle.std.proofs.lemmas.List.{length-append}
use Rattle.std.proofs.lemmas.List.Elements.{All-head, All-tail}
use Rattle.std.proofs.lemmas.Nat.{from_le_bytes-to_le_bytes_8}
use Rattle.std.proofs.lemmas.Slice.Eq.{bytes_eq-Decides}
use Rattle.sha2.specs.Sha256.{sha256, digest_bytes}
use Rattle.lig_merkle.specs.Merkle.{column_bytes, leaf_message, node_message, root_of}
use Rattle.lig_merkle.specs.Binding.{Collide, messages_up, OpeningsBind}

-- ---- a digest has 32 bytes

digest_count : (h : List ℕ) (n : ℕ) → length (digest_bytes h n) ≡ n * 4
unfolding digest_bytes
digest_count h zero = refl
digest_count h (suc n) =
    let last : length (to_be_bytes w32 (slice_index h n)) ≡ 4 = refl in
    omega (
      arith,
      digest_count h n,
      last,
      length-append (digest_bytes h n) (to_be_bytes w32 (slice_index h n)),
    )

pub digest_length : (message : List ℕ) → length (sha256 message) ≡ 32
unfolding sha256
digest_length message = digest_count _ 8

-- ---- parts of equal lists

front_same : (a b x y : List ℕ) → length a ≡ length b → a ++ x ≡ b ++ y → a ≡ b
front_same a b x y count e =
    sym (take-append_seam a x) ∙ ap (λ (xs : List ℕ). take (length a) xs) e
    ∙ ap (λ (n : ℕ). take n (b ++ y)) count ∙ take-append_seam b y

back_same : (a b x y : List ℕ) → length a ≡ length b → a ++ x ≡ b ++ y → x ≡ y
back_same a b x y count e =
    sym (drop-append_seam a x) ∙ ap (λ (xs : List ℕ). drop (length a) xs) e
    ∙ ap (λ (n : ℕ). drop n (b ++ y)) count ∙ drop-append_seam b y

-- ---- columns of words have bytes of their own

word_same : (x y : ℕ) → x < 2 ^ 64 → y < 2 ^ 64 → to_le_bytes w64 x ≡ to_le_bytes w64 y → x ≡ y
word_same x y low_x low_y e =
    sym (from_le_bytes-to_le_bytes_8 x low_x) ∙ ap (λ (bs : List ℕ). from_le_bytes w64 bs) e
    ∙ from_le_bytes-to_le_bytes_8 y low_y

word_count : (x : ℕ) → length (to_le_bytes w64 x) ≡ 8
word_count x = refl

pub column_same : (a b : List ℕ) → All (λ value. value < 2 ^ 64) a → All (λ value. value < 2 ^ 64) b
    → column_bytes a ≡ column_bytes b → a ≡ b
column_same [] [] low_a low_b e = refl
column_same [] (y ∷ b) low_a low_b e =
    absurd (omega (
      arith,
      ap length e,
      length-append (to_le_bytes w64 y) (column_bytes b),
      word_count y,
    ))
column_same (x ∷ a) [] low_a low_b e =
    absurd (omega (
      arith,
      ap length e,
      length-append (to_le_bytes w64 x) (column_bytes a),
      word_count x,
    ))
column_same (x ∷ a) (y ∷ b) low_a low_b e =
    let Low : ℕ → Type 0 = λ value. value < 2 ^ 64 in
    let count = word_count x ∙ sym (word_count y) in
    let first =
    front_same (to_le_bytes w64 x) (to_le_bytes w64 y) (column_bytes a) (column_bytes b) count e in
    let others =
    back_same (to_le_bytes w64 x) (to_le_bytes w64 y) (column_bytes a) (column_bytes b) count e in
    ap (λ (z : ℕ). z ∷ a) (word_same x y (All-head Low x a low_a) (All-head Low y b low_b) first)
    ∙ ap (λ (zs : List ℕ). y ∷ zs)
    (column_same a b (All-tail Low x a low_a) (All-tail Low y b low_b) others)

-- ---- level by level

-- what is hashed for the node over a hash, on this side, and its sibling
abbrev pub over : Bool → List ℕ → List ℕ → List ℕ
over left hash sibling = cond left (node_message hash sibling) (node_message sibling hash)

pub over_same : (left : Bool) (h k s t : List ℕ) → length h ≡ length k
    → over left h s ≡ over left k t → h ≡ k
over_same true h k s t count e = front_same h k s t count (ap (λ (xs : List ℕ). drop 1 xs) e)
over_same false h k s t count e =
    let whole = ap (λ (xs : List ℕ). drop 1 xs) e in
    back_same s t h k
    (omega (arith, ap length whole, length-append s h, length-append t k, count)) whole

pub equal_or_not : (m n : List ℕ) → (m ≡ n) ⊎ (m ≢ n)
equal_or_not m n =
    let tells = bytes_eq-Decides m n in
    ⊎_elim (λ yes. inl (tells.0 yes)) (λ no. inr (not_from_Decides (bytes_eq m n) tells no))
    (cases_Bool (bytes_eq m n))

pub collide_up : (m n : List ℕ) (index : ℕ) (from_m from_n : List (List ℕ)) → m ≢ n
    → length from_m ≡ length from_n
    → root_of (sha256 m) index from_m ≡ root_of (sha256 n) index from_n
    → (level : ℕ) × (level ≤ length from_m)
    × Collide (get_or (messages_up m index from_m) level [])
    (get_or (messages_up n index from_n) level [])
collide_up m n index [] [] differ count same =
    (0, omega arith, record { differ = differ; digest = same })
collide_up m n index [] (t ∷ from_n) differ count same = absurd (omega arith)
collide_up m n index (s ∷ from_m) [] differ count same = absurd (omega arith)
collide_up m n index (s ∷ from_m) (t ∷ from_n) differ count same =
    let left = eqb (index % 2) 0 in
    ⊎_elim
    (λ here. (0, omega arith, record { differ = differ; digest = here }))
    (λ further.
    let up =
    collide_up (over left (sha256 m) s) (over left (sha256 n) t) (index / 2) from_m from_n
    (λ e. further (over_same left (sha256 m) (sha256 n) s t
    (digest_length m ∙ sym (digest_length n)) e))
    (omega arith) (above left (sha256 m) s (index / 2) from_m
    ∙ same ∙ sym (above left (sha256 n) t (index / 2) from_n)) in
    let low = up.1 in
    (suc up.0, omega arith, up.2))
    (equal_or_not (sha256 m) (sha256 n))
  where
    above : (left : Bool) (hash sibling : List ℕ) (index : ℕ) (path : List (List ℕ))
        → root_of (sha256 (over left hash sibling)) index path
        ≡ root_of (cond left (sha256 (node_message hash sibling))
        (sha256 (node_message sibling hash))) index path
    above true hash sibling index path = refl
    above false hash sibling index path = refl

pub binds : OpeningsBind
binds index a b from_a from_b low_a low_b count differ same =
    collide_up (leaf_message a) (leaf_message b) index from_a from_b
    (λ e. differ (column_same a b low_a low_b (ap (λ (xs : List ℕ). drop 1 xs) e))) count same
