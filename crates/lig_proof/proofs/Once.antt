-- Numbers below a bound in order, each once.
use Rattle.std.proofs.Common.{◌≡◌, ℕ, zero, suc, ◌+◌, ◌^◌, ◌<◌, ◌≤◌, List, [], ◌∷◌, Bool, true}
use Rattle.std.proofs.Common.{false, cond, eqb, All, ◌||◌, length, filter, get_or, refl, sym, ap}
use Rattle.std.proofs.Common.{subst, ◌∙◌, arith, zero-add, ⊎_elim}
use Rattle.std.specs.List.{AllByRecursion, Contains, dedup, range_with_len}
use Rattle.std.specs.List.Sorted.{IsStrictlyIncreasing, IsPermutation, IsSorted}
use Rattle.std.specs.Ordering.{nat_cmp}
use Rattle.std.proofs.lemmas.List.Kept.{Contains-dedup_nat, Contains-from_dedup}
use Rattle.std.proofs.lemmas.List.Sorted.{Contains-permutation, IsPermutation-sym}
use Rattle.std.proofs.lemmas.Map.Keys.{IsStrictlyIncreasing-dedup}
use Rattle.std.proofs.lemmas.Bool.{cases_lt, cases_Bool, false_from_ne_true, both_ways, ne_eqb}
use Rattle.std.proofs.lemmas.Bool.{or_from}
use Rattle.std.proofs.lemmas.List.Elements.{recursion_from_All, All-contains}
use Rattle.lig_merkle.specs.Shared.{AreOpened, is_known}
use Rattle.lig_merkle.proofs.Known.{Rises, rises, known_head, known_place, known_at}

-- two tests that agree from a up to below a + n
filter_same : (p q : ℕ → Bool) (a n : ℕ) → ((i : ℕ) → a ≤ i → p i ≡ q i)
    → filter p (range_with_len a n) ≡ filter q (range_with_len a n)
filter_same p q a zero same = refl
filter_same p q a (suc n) same =
    let here : p a ≡ q a = same a (omega arith) in
    let rest = filter_same p q (a + 1) n (λ i l. same i (omega arith)) in
    ap (λ b. cond b (a ∷ filter p (range_with_len (a + 1) n)) (filter p (range_with_len (a + 1) n)))
    here
    ∙ ap (λ xs. cond (q a) (a ∷ xs) xs) rest

below_none : (p : ℕ → Bool) (a n : ℕ) → ((i : ℕ) → p i ≡ false) → filter p (range_with_len a n) ≡ []
below_none p a zero none = refl
below_none p a (suc n) none =
    ap (λ b. cond b (a ∷ filter p (range_with_len (a + 1) n)) (filter p (range_with_len (a + 1) n)))
    (none a) ∙ below_none p (a + 1) n none

-- what is not among numbers above it
not_known : (xs : List ℕ) (a : ℕ) → AllByRecursion (λ x. a < x) xs → is_known xs a ≡ false
not_known [] a h = refl
not_known (x ∷ xs) a h =
    let above : a < x = h.0 in
    let other : x ≡ a → ⊥ = λ e. omega arith in
    or_from (eqb x a) (is_known xs a) (ne_eqb x a other) (not_known xs a h.1)

above_all : (a x : ℕ) (xs : List ℕ) → a ≤ x → AllByRecursion (λ y. x < y) xs
    → AllByRecursion (λ y. a < y) xs
above_all a x [] l h = tt
above_all a x (y ∷ xs) l h = let here : x < y = h.0 in (omega arith, above_all a x xs l h.1)

-- rising numbers from a up to below a + n are those of that range that are among them
rising_is_filter : (xs : List ℕ) (a n : ℕ) → Rises xs → AllByRecursion (λ x. a ≤ x) xs
    → AllByRecursion (λ x. x < a + n) xs → filter (is_known xs) (range_with_len a n) ≡ xs
rising_is_filter [] a n up low high = below_none (is_known []) a n (λ i. refl)
rising_is_filter (x ∷ xs) a zero up low high =
    let here : x < a + 0 = high.0 in let least : a ≤ x = low.0 in absurd (omega arith)
rising_is_filter (x ∷ xs) a (suc n) up low high =
    let least : a ≤ x = low.0 in
    let rest = filter (is_known (x ∷ xs)) (range_with_len (a + 1) n) in
    ⊎_elim
    (λ l. let lacks = not_known (x ∷ xs) a (l, above_all a x xs least up.0) in
    ap (λ b. cond b (a ∷ rest) rest) lacks
    ∙ rising_is_filter (x ∷ xs) (a + 1) n up
    (omega arith, from_next (a + 1) x xs (omega arith) up.0) (shift a n (x ∷ xs) high))
    (λ g. let is : x ≡ a = omega arith in
    let others : (i : ℕ) → a + 1 ≤ i → is_known (x ∷ xs) i ≡ is_known xs i = λ i l. let other : x
    ≡ i → ⊥ = λ e. omega arith in ap (λ b. b || is_known xs i) (ne_eqb x i other) in
    ap (λ b. cond b (a ∷ rest) rest) (known_head x xs a is)
    ∙ ap (λ ys. a ∷ ys) (filter_same (is_known (x ∷ xs)) (is_known xs) (a + 1) n others
    ∙ rising_is_filter xs (a + 1) n up.1 (from_next (a + 1) x xs (omega arith) up.0)
    (shift a n xs high.1))
    ∙ ap (λ y. y ∷ xs) (sym is))
    (cases_lt a x)
  where
    from_next : (b y : ℕ) (ys : List ℕ) → b ≤ y + 1 → AllByRecursion (λ z. y < z) ys
        → AllByRecursion (λ z. b ≤ z) ys
    from_next b y [] l h = tt
    from_next b y (z ∷ ys) l h = let here : y < z = h.0 in (omega arith, from_next b y ys l h.1)

    shift : (b m : ℕ) (ys : List ℕ) → AllByRecursion (λ z. z < b + suc m) ys
        → AllByRecursion (λ z. z < b + 1 + m) ys
    shift b m [] h = tt
    shift b m (z ∷ ys) h = let here : z < b + suc m = h.0 in (omega arith, shift b m ys h.1)

at_default : (xs : List ℕ) (k d e : ℕ) → k < length xs → get_or xs k d ≡ get_or xs k e
at_default [] k d e l = absurd (omega arith)
at_default (x ∷ xs) zero d e l = refl
at_default (x ∷ xs) (suc k) d e l = at_default xs k d e (omega arith)

contains_known : (xs : List ℕ) (x : ℕ) → Contains xs x → is_known xs x ≡ true
contains_known xs x h = known_at xs h.0 x h.1 (at_default xs h.0 0 x h.1 ∙ h.2)

known_contains : (xs : List ℕ) (x : ℕ) → is_known xs x ≡ true → Contains xs x
known_contains xs x h = let p = known_place xs x h in (p.0, p.1, at_default xs p.0 x 0 p.1 ∙ p.2)

all_zero : (xs : List ℕ) → AllByRecursion (λ x. 0 ≤ x) xs
all_zero [] = tt
all_zero (x ∷ xs) = (omega arith, all_zero xs)

module _ (drawn once : List ℕ) (keeps : (x : ℕ) → Contains drawn x → Contains once x)
    (adds : (x : ℕ) → Contains once x → Contains drawn x) where
  same_known : (i : ℕ) → is_known once i ≡ is_known drawn i
  same_known i = ⊎_elim
      (λ yes. yes ∙ sym (contains_known drawn i (adds i (known_contains once i yes))))
      (λ no. no
      ∙ sym (false_from_ne_true (is_known drawn i)
      (λ yes. both_ways (is_known once i) no
      (contains_known once i (keeps i (known_contains drawn i yes))))))
      (cases_Bool (is_known once i))

  inside : (n : ℕ) → All (λ x. x < n) drawn → All (λ x. x < n) once
  inside n below = λ k d l.
      let x = get_or once k d in
      let has : Contains once x = (k, l, at_default once k x d l) in
      All-contains (λ x. x < n) drawn x below (adds x has)

  -- numbers in order and each once are those of the range that were drawn
  pub once_is : (n : ℕ) → IsStrictlyIncreasing once → All (λ x. x < n) drawn
      → once ≡ filter (is_known drawn) (range_with_len 0 n)
  once_is n up below =
      let Below : ℕ → Type 0 = λ m. AllByRecursion (λ x. x < m) once in
      sym (sym (filter_same (is_known once) (is_known drawn) 0 n (λ i l. same_known i))
      ∙ rising_is_filter once 0 n (rises once up) (all_zero once)
      (subst Below (sym (zero-add n)) (recursion_from_All (λ x. x < n) once (inside n below))))

  -- some leaves of a tree
  pub once_opened : (depth n : ℕ) → n ≡ 2 ^ depth → 0 < length drawn → IsStrictlyIncreasing once
      → All (λ x. x < n) drawn → AreOpened depth once
  once_opened depth n e some up below =
      let within : All (λ x. x < n) once = inside n below in
      let Within : ℕ → Type 0 = λ m. All (λ x. x < m) once in
      let first =
      keeps (get_or drawn 0 0) (0, some, at_default drawn 0 (get_or drawn 0 0) 0 some) in
      let place = first.1 in
      record { some = omega arith; rising = up; within = subst Within e within }

-- what sorting and dropping repetitions leave
pub record IsOnce (drawn once : List ℕ) : Type 0 where
  pub rising : IsStrictlyIncreasing once
  pub keeps : (x : ℕ) → Contains drawn x → Contains once x
  pub adds : (x : ℕ) → Contains once x → Contains drawn x

pub once_of : (drawn start sorted once : List ℕ) → start ≡ drawn → IsPermutation start sorted
    → IsSorted nat_cmp sorted → once ≡ dedup eqb sorted → IsOnce drawn once
once_of drawn start sorted once same moved up is = record {
  rising = rw is (IsStrictlyIncreasing-dedup sorted up);
  keeps = λ x h. rw is
      (Contains-dedup_nat sorted x (Contains-permutation start sorted x moved (rw same h)));
  adds = λ x h. rw same at
      (Contains-permutation sorted start x (IsPermutation-sym start sorted moved)
      (Contains-from_dedup eqb sorted x (rw is at h)));
}
