-- Known places of a level, what is missing beside them, and what is above them.
use Rattle.std.proofs.Common.{◌≡◌, ℕ, zero, suc, ◌+◌, ◌-◌, ◌*◌, ◌/◌, ◌%◌, ◌^◌, ◌<◌, ◌≤◌, ◌⊎◌, inl}
use Rattle.std.proofs.Common.{inr, List, [], ◌∷◌, ◌++◌, Bool, true, false, cond, eqb, not, All}
use Rattle.std.proofs.Common.{length, map, filter, get_or, refl, sym, ap, subst, ◌∙◌, arith, ⊎_elim}
use Rattle.std.proofs.Common.{Result, Ok, Err}
use Rattle.std.specs.List.{AllByRecursion, AllPairs, dedup_from}
use Rattle.std.specs.List.Sorted.{IsStrictlyIncreasing, IsSorted, IsBinarySearchResult}
use Rattle.std.specs.Result.{MatchResult}
use Rattle.std.proofs.lemmas.List.Sorted.{searched}
use Rattle.std.specs.Ordering.{nat_cmp, is_lt}
use Rattle.std.specs.declared.cmp.Ordering.TheVariants.{Less, Equal, Greater}
use Rattle.std.proofs.Math.Nat.{pow-suc}
use Rattle.std.proofs.lemmas.Bool.{cases_lt, cases_Bool, false_from_ne_true, eqb-true, eq-eqb}
use Rattle.std.proofs.lemmas.Bool.{le-ltb, both_ways, or_cases, or_left, or_right}
use Rattle.std.proofs.lemmas.List.{length-map, get_or-map}
use Rattle.std.proofs.lemmas.List.Elements.{All-map, recursion_from_All, All-from_recursion}
use Rattle.std.proofs.lemmas.List.Elements.{All-weaker}
use Rattle.std.proofs.lemmas.List.Filters.{All-dedup}
use Rattle.std.proofs.lemmas.List.Kept.{AllPairs-from_increasing}
use Rattle.std.proofs.lemmas.Map.Keys.{IsStrictlyIncreasing-dedup}
use Rattle.lig_merkle.specs.Nodes.{sibling_of}
use Rattle.lig_merkle.specs.Shared.{AreOpened, is_known, missing, parents, shared_count}
use Rattle.lig_merkle.proofs.Places.{parity}

-- each number is below all later ones
abbrev pub Rises : List ℕ → Type 0
Rises [] = Unit {0}
Rises (x ∷ xs) = AllByRecursion (λ y. x < y) xs × Rises xs

rises_pairs : (xs : List ℕ) → AllPairs (λ x y. x < y) xs → Rises xs
rises_pairs [] h = tt
rises_pairs (x ∷ xs) h = (
  recursion_from_All (λ y. x < y) xs (λ k d l. h 0 (suc k) d (omega arith) (omega arith)),
  rises_pairs xs (λ i j d l m. h (suc i) (suc j) d (omega arith) (omega arith)),
)

pub rises : (xs : List ℕ) → IsStrictlyIncreasing xs → Rises xs
rises xs h = rises_pairs xs (AllPairs-from_increasing xs h)

-- an earlier one of rising numbers is no greater
pub ordered : (xs : List ℕ) → Rises xs → (i j : ℕ) → i ≤ j → j < length xs
    → get_or xs i 0 ≤ get_or xs j 0
ordered [] h i j le lt = omega arith
ordered (x ∷ xs) h zero zero le lt = omega arith
ordered (x ∷ xs) h zero (suc j) le lt =
    let one : x < get_or xs j 0 =
    All-from_recursion (λ y. x < y) xs h.0 j 0 (omega arith) in omega arith
ordered (x ∷ xs) h (suc i) zero le lt = omega arith
ordered (x ∷ xs) h (suc i) (suc j) le lt = ordered xs h.1 i j (omega arith) (omega arith)

-- rising numbers from low up to below n are at most n - low
rises_count : (xs : List ℕ) (low n : ℕ) → low ≤ n → AllByRecursion (λ y. low ≤ y) xs
    → AllByRecursion (λ y. y < n) xs → Rises xs → low + length xs ≤ n
rises_count [] low n le above below h = omega arith
rises_count (x ∷ xs) low n le above below h =
    let small : x < n = below.0 in
    let large : low ≤ x = above.0 in
    let next : x + 1 ≤ n = omega arith in
    let rest : (x + 1) + length xs ≤ n = rises_count xs (x + 1) n next (up xs h.0) below.1 h.1 in
    omega arith
  where
    up : (ys : List ℕ) → AllByRecursion (λ y. x < y) ys → AllByRecursion (λ y. x + 1 ≤ y) ys
    up [] a = tt
    up (y ∷ ys) a = let here : x < y = a.0 in (omega arith, up ys a.1)

-- what is known
pub known_cases : (x : ℕ) (xs : List ℕ) (y : ℕ) → is_known (x ∷ xs) y ≡ true
    → (x ≡ y) ⊎ (is_known xs y ≡ true)
known_cases x xs y h =
    ⊎_elim (λ e. inl (eqb-true x y e)) (λ t. inr t) (or_cases (eqb x y) (is_known xs y) h)

pub known_head : (x : ℕ) (xs : List ℕ) (y : ℕ) → x ≡ y → is_known (x ∷ xs) y ≡ true
known_head x xs y e = or_left (eqb x y) (is_known xs y) (eq-eqb x y e)

pub known_tail : (x : ℕ) (xs : List ℕ) (y : ℕ) → is_known xs y ≡ true → is_known (x ∷ xs) y ≡ true
known_tail x xs y h = or_right (eqb x y) (is_known xs y) h

pub known_front : (xs ys : List ℕ) (y : ℕ) → is_known xs y ≡ true → is_known (xs ++ ys) y ≡ true
known_front [] ys y h = cc
known_front (x ∷ xs) ys y h =
    ⊎_elim (λ e. known_head x (xs ++ ys) y e)
    (λ t. known_tail x (xs ++ ys) y (known_front xs ys y t)) (known_cases x xs y h)

pub known_back : (xs ys : List ℕ) (y : ℕ) → is_known ys y ≡ true → is_known (xs ++ ys) y ≡ true
known_back [] ys y h = h
known_back (x ∷ xs) ys y h = known_tail x (xs ++ ys) y (known_back xs ys y h)

pub known_at : (xs : List ℕ) (i x : ℕ) → i < length xs → get_or xs i 0 ≡ x → is_known xs x ≡ true
known_at [] i x l e = absurd (omega arith)
known_at (y ∷ xs) zero x l e = known_head y xs x e
known_at (y ∷ xs) (suc i) x l e = known_tail y xs x (known_at xs i x (omega arith) e)

pub known_place : (xs : List ℕ) (x : ℕ) → is_known xs x ≡ true → (i : ℕ) × (i < length xs)
    × (get_or xs i 0 ≡ x)
known_place [] x h = absurd (cc)
known_place (y ∷ xs) x h =
    ⊎_elim (λ e. (0, omega arith, e)) (λ t. let p = known_place xs x t in let l : p.0 < length xs =
    p.1 in (suc p.0, omega arith, p.2)) (known_cases y xs x h)

-- the two under one node
half_sibling : (x : ℕ) → sibling_of x / 2 ≡ x / 2
half_sibling x =
    let Half : ℕ → Type 0 = λ b. cond (eqb b 0) (x + 1) (x - 1) / 2 ≡ x / 2 in
    ⊎_elim (λ even. subst Half (sym even) (omega arith)) (λ odd. subst Half (sym odd) (omega arith))
    (parity x)

two_under : (x c : ℕ) → x / 2 ≡ c / 2 → (x ≡ c) ⊎ (sibling_of x ≡ c)
two_under x c e =
    let Same : ℕ → Type 0 = λ b. (x ≡ c) ⊎ (cond (eqb b 0) (x + 1) (x - 1) ≡ c) in
    ⊎_elim
    (λ even. ⊎_elim (λ ceven. inl (omega arith)) (λ codd. subst Same (sym even) (inr (omega arith)))
    (parity c))
    (λ odd. ⊎_elim (λ ceven. subst Same (sym odd) (inr (omega arith))) (λ codd. inl (omega arith))
    (parity c))
    (parity x)

-- of two known places with one node above, neither is beside something missing
apart : (whole : List ℕ) (x y : ℕ) → x < y → is_known whole x ≡ true
    → is_known whole (sibling_of y) ≡ false → sibling_of x / 2 < sibling_of y / 2
apart whole x y l here lacks =
    let hx = half_sibling x in
    let hy = half_sibling y in
    ⊎_elim (λ lower. omega arith)
    (λ same. ⊎_elim (λ e. absurd (omega arith))
    (λ e. absurd
    (both_ways (is_known whole x) (ap (λ p. is_known whole p) (sym e) ∙ lacks) here))
    (two_under y x (omega arith)))
    (cases_lt (x / 2) (y / 2))

-- what is missing beside some of the known places
abbrev pub missing_in : List ℕ → List ℕ → List ℕ
missing_in whole xs = filter (λ place. not (is_known whole place)) (map sibling_of xs)

abbrev halves : List ℕ → List ℕ
halves xs = map (λ place. place / 2) xs

module _ (whole : List ℕ) where
  halves_above : (x : ℕ) (xs : List ℕ) → is_known whole x ≡ true → AllByRecursion (λ y. x < y) xs
      → AllByRecursion (λ h. sibling_of x / 2 < h) (halves (missing_in whole xs))
  halves_above x [] here h = tt
  halves_above x (y ∷ xs) here h =
      let more = halves_above x xs here h.1 in
      let Above : Bool
      → Type 0 =
      λ b. AllByRecursion (λ h. sibling_of x / 2 < h)
      (halves (cond (not b) (sibling_of y ∷ missing_in whole xs) (missing_in whole xs))) in
      ⊎_elim (λ e. subst Above (sym e) more)
      (λ e. subst Above (sym e) (apart whole x y h.0 here e, more))
      (cases_Bool (is_known whole (sibling_of y)))

  halves_rise : (xs : List ℕ) → Rises xs
      → ((y : ℕ) → is_known xs y ≡ true → is_known whole y ≡ true)
      → Rises (halves (missing_in whole xs))
  halves_rise [] h sub = tt
  halves_rise (x ∷ xs) h sub =
      let more = halves_rise xs h.1 (λ y k. sub y (known_tail x xs y k)) in
      let IsRising : Bool
      → Type 0 =
      λ b. Rises
      (halves (cond (not b) (sibling_of x ∷ missing_in whole xs) (missing_in whole xs))) in
      ⊎_elim (λ e. subst IsRising (sym e) more)
      (λ e. subst IsRising (sym e) (
        halves_above x xs (sub x (known_head x xs x refl)) h.0,
        more,
      )) (cases_Bool (is_known whole (sibling_of x)))

  halves_below : (n : ℕ) (xs : List ℕ) → AllByRecursion (λ y. y < 2 * n) xs
      → AllByRecursion (λ h. h < n) (halves (missing_in whole xs))
  halves_below n [] h = tt
  halves_below n (x ∷ xs) h =
      let more = halves_below n xs h.1 in
      let here : x < 2 * n = h.0 in
      let half = half_sibling x in
      let low : sibling_of x / 2 < n = omega arith in
      let Below : Bool
      → Type 0 =
      λ b. AllByRecursion (λ h. h < n)
      (halves (cond (not b) (sibling_of x ∷ missing_in whole xs) (missing_in whole xs))) in
      ⊎_elim (λ e. subst Below (sym e) more) (λ e. subst Below (sym e) (low, more))
      (cases_Bool (is_known whole (sibling_of x)))

  in_missing : (xs : List ℕ) (x : ℕ) → is_known xs x ≡ true → is_known whole (sibling_of x) ≡ false
      → is_known (missing_in whole xs) (sibling_of x) ≡ true
  in_missing [] x h lacks = absurd (cc)
  in_missing (y ∷ xs) x h lacks =
      let rest = missing_in whole xs in
      let Holds : Bool → Type 0 =
      λ b. is_known (cond (not b) (sibling_of y ∷ rest) rest) (sibling_of x) ≡ true in
      ⊎_elim
      (λ e. subst Holds (sym (ap (λ p. is_known whole (sibling_of p)) e ∙ lacks))
      (known_head (sibling_of y) rest (sibling_of x) (ap (λ p. sibling_of p) e)))
      (λ t. let more = in_missing xs x t lacks in
      ⊎_elim (λ e. subst Holds (sym e) more)
      (λ e. subst Holds (sym e) (known_tail (sibling_of y) rest (sibling_of x) more))
      (cases_Bool (is_known whole (sibling_of y))))
      (known_cases y xs x h)

rises_from_halves : (xs : List ℕ) → Rises (halves xs) → Rises xs
rises_from_halves [] h = tt
rises_from_halves (x ∷ xs) h = (lower xs h.0, rises_from_halves xs h.1)
  where
    lower : (ys : List ℕ) → AllByRecursion (λ y. x / 2 < y) (halves ys)
        → AllByRecursion (λ y. x < y) ys
    lower [] a = tt
    lower (y ∷ ys) a = let here : x / 2 < y / 2 = a.0 in (omega arith, lower ys a.1)

-- the missing places rise, and are at most half as many as the level has
pub missing_rises : (known : List ℕ) → Rises known → Rises (missing known)
missing_rises known h = rises_from_halves (missing known) (halves_rise known known h (λ y k. k))

all_from_zero : (xs : List ℕ) → AllByRecursion (λ y. 0 ≤ y) xs
all_from_zero [] = tt
all_from_zero (x ∷ xs) = (omega arith, all_from_zero xs)

missing_count : (known : List ℕ) (n : ℕ) → Rises known → All (λ place. place < 2 * n) known
    → length (missing known) ≤ n
missing_count known n h below =
    let half = halves (missing known) in
    let count =
    rises_count half 0 n (omega arith) (all_from_zero half)
    (halves_below known n known (recursion_from_All (λ y. y < 2 * n) known below))
    (halves_rise known known h (λ y k. k)) in
    omega (arith, length-map (missing known) (λ (place : ℕ). place / 2), count)

-- the places above
not_less : (a b : ℕ) → b ≤ a → is_lt (nat_cmp a b) ≡ false
not_less a b h =
    let IsNotLess : Bool → Type 0 =
    λ t. is_lt (cond t Less (cond (eqb a b) Equal Greater)) ≡ false in
    subst IsNotLess (sym (le-ltb a b h))
    (elim (eqb a b) as (λ t. is_lt (cond t Equal Greater) ≡ false) [
      | true ↦ refl
      | false ↦
          refl
    ])

halves_sorted : (known : List ℕ) → Rises known → IsSorted nat_cmp (halves known)
halves_sorted known h = λ k d low lt.
    let count = length-map known (λ (place : ℕ). place / 2) in
    let next : k + 1 < length known = omega arith in
    let now : k < length known = omega arith in
    let before = ordered known h k (k + 1) (omega arith) next in
    let first = get_or-map (λ (place : ℕ). place / 2) known k 0 d now in
    let second = get_or-map (λ (place : ℕ). place / 2) known (k + 1) 0 d next in
    not_less (get_or (halves known) (k + 1) d) (get_or (halves known) k d) (omega arith)

dedup_some : (k : ℕ) (xs : List ℕ) → 0 < length (dedup_from eqb k xs)
dedup_some k [] = omega arith
dedup_some k (x ∷ xs) =
    let Some : Bool → Type 0 =
    λ b. 0 < length (cond b (dedup_from eqb k xs) (k ∷ dedup_from eqb x xs)) in
    ⊎_elim (λ e. subst Some (sym e) (dedup_some k xs)) (λ e. subst Some (sym e) (omega arith))
    (cases_Bool (eqb x k))

parents_some : (known : List ℕ) → 0 < length known → 0 < length (parents known)
parents_some [] h = absurd (omega arith)
parents_some (x ∷ xs) h = dedup_some (x / 2) (halves xs)

parents_below : (known : List ℕ) (n : ℕ) → All (λ place. place < 2 * n) known
    → All (λ place. place < n) (parents known)
parents_below known n h =
    All-dedup eqb (λ place. place < n) (halves known)
    (All-map (λ place. place < n) (λ place. place / 2) known
    (All-weaker (λ place. place < 2 * n) (λ place. place / 2 < n) (λ x l. omega arith) known h))

pub parents_small : (known : List ℕ) → All (λ place. place < 2 ^ 63) known
    → All (λ place. place < 2 ^ 62) (parents known)
parents_small known h = parents_below known (2 ^ 62) h

pub parents_rise : (known : List ℕ) → IsStrictlyIncreasing known
    → IsStrictlyIncreasing (parents known)
parents_rise known h =
    IsStrictlyIncreasing-dedup (halves known) (halves_sorted known (rises known h))

pub within_double : (depth : ℕ) (known : List ℕ) → All (λ place. place < 2 ^ suc depth) known
    → All (λ place. place < 2 * 2 ^ depth) known
within_double depth known h =
    let double : 2 ^ suc depth ≡ 2 * 2 ^ depth = pow-suc 2 depth ∙ omega arith in
    let Below : ℕ → Type 0 = λ n. All (λ place. place < n) known in
    subst Below double h

pub parents_opened : (depth : ℕ) (known : List ℕ) → AreOpened (suc depth) known
    → AreOpened depth (parents known)
parents_opened depth known h = record {
  some = parents_some known h.some;
  rising = parents_rise known h.rising;
  within = parents_below known (2 ^ depth) (within_double depth known h.within);
}

pub count_below : (depth : ℕ) (known : List ℕ) → AreOpened depth known
    → shared_count depth known < 2 ^ depth
count_below zero known h = omega arith
count_below (suc depth) known h =
    let double : 2 ^ suc depth ≡ 2 * 2 ^ depth = pow-suc 2 depth ∙ omega arith in
    let here =
    missing_count known (2 ^ depth) (rises known h.rising)
    (within_double depth known h.within) in
    let above = count_below depth (parents known) (parents_opened depth known h) in
    omega arith

-- what is above a known place comes from one below it
dedup_known : (k : ℕ) (xs : List ℕ) (q : ℕ) → is_known (dedup_from eqb k xs) q ≡ true
    → is_known (k ∷ xs) q ≡ true
dedup_known k [] q h = h
dedup_known k (x ∷ xs) q h =
    let Known : Bool → Type 0 =
    λ b. is_known (cond b (dedup_from eqb k xs) (k ∷ dedup_from eqb x xs)) q ≡ true in
    ⊎_elim
    (λ e. ⊎_elim (λ same. known_head k (x ∷ xs) q same)
    (λ t. known_tail k (x ∷ xs) q (known_tail x xs q t))
    (known_cases k xs q (dedup_known k xs q (subst Known e h))))
    (λ e. ⊎_elim (λ same. known_head k (x ∷ xs) q same)
    (λ t. known_tail k (x ∷ xs) q (dedup_known x xs q t))
    (known_cases k (dedup_from eqb x xs) q (subst Known e h)))
    (cases_Bool (eqb x k))

known_half : (xs : List ℕ) (q : ℕ) → is_known (halves xs) q ≡ true
    → (x : ℕ) × (is_known xs x ≡ true) × (x / 2 ≡ q)
known_half [] q h = absurd (cc)
known_half (x ∷ xs) q h =
    ⊎_elim (λ e. (x, known_head x xs x refl, e)) (λ t. let p = known_half xs q t
    in (p.0, known_tail x xs p.0 p.1, p.2)) (known_cases (x / 2) (halves xs) q h)

known_below : (known : List ℕ) (q : ℕ) → is_known (parents known) q ≡ true
    → (x : ℕ) × (is_known known x ≡ true) × (x / 2 ≡ q)
known_below [] q h = absurd (cc)
known_below (x ∷ xs) q h = known_half (x ∷ xs) q (dedup_known (x / 2) (halves xs) q h)

-- both places under one above are known or missing
pub child_found : (known : List ℕ) (q child : ℕ) → is_known (parents known) q ≡ true → child / 2 ≡ q
    → is_known (known ++ missing known) child ≡ true
child_found known q child h e =
    let p = known_below known q h in
    ⊎_elim
    (λ same. known_front known (missing known) child (ap (λ x. is_known known x) (sym same) ∙ p.1))
    (λ beside. ap (λ x. is_known (known ++ missing known) x) (sym beside) ∙ ⊎_elim
    (λ here. known_front known (missing known) (sibling_of p.0) here)
    (λ lacks. known_back known (missing known) (sibling_of p.0)
    (in_missing known known p.0 p.1 lacks))
    (cases_Bool (is_known known (sibling_of p.0))))
    (two_under p.0 child (p.2 ∙ sym e))

-- a search in rising numbers tells whether one is known
abbrev pub Found : List ℕ → ℕ → Result ℕ ℕ → Type 0
Found xs x (Ok i) = (i < length xs) × (get_or xs i 0 ≡ x) × (is_known xs x ≡ true)
Found xs x (Err i) = is_known xs x ≡ false

pub search_tells : (xs : List ℕ) (x : ℕ) (r : Result ℕ ℕ)
    → IsBinarySearchResult (λ y. nat_cmp y x) xs r → Rises xs → Found xs x r
search_tells xs x r h up = tells xs x r (searched xs x r h (ordered xs up))
  where
    tells : (xs : List ℕ) (x : ℕ) (r : Result ℕ ℕ)
        → MatchResult r (λ i. (i < length xs) × (get_or xs i 0 ≡ x)) (λ i. (i ≤ length xs)
        × ((k : ℕ) → k < i → get_or xs k 0 < x)
        × ((k : ℕ) → i ≤ k → k < length xs → x < get_or xs k 0))
        → Found xs x r
    tells xs x (Ok i) h = (h.0, h.1, known_at xs i x h.0 h.1)
    tells xs x (Err i) h = false_from_ne_true (is_known xs x) (λ k.
        let p = known_place xs x k in
        ⊎_elim (λ low. let less = h.1 p.0 low in let e = p.2 in absurd (omega arith))
        (λ high. let more = h.2 p.0 high p.1 in let e = p.2 in absurd (omega arith))
        (cases_lt p.0 i))
