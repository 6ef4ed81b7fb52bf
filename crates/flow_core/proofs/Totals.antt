-- Lemmas on sums, and on how often a number stands in a list
use Rattle.std.proofs.Common.{◌≡◌, ◌≢◌, ℕ, zero, suc, ◌+◌, ◌<◌, ◌≤◌, cond, List, [], ◌∷◌, length}
use Rattle.std.proofs.Common.{take, get_or, refl, sym, ap, subst, inl, inr, arith}
use Rattle.std.proofs.lemmas.Bool.{cases_eq, eq-eqb, ne_eqb, cases_lt}
use Rattle.flow_core.specs.Counts.{total, same, times, IsIn}

pub same_yes : (x y : ℕ) → x ≡ y → same x y ≡ 1
same_yes x y e = ap (λ b. cond b 1 0) (eq-eqb x y e)

pub same_no : (x y : ℕ) → x ≢ y → same x y ≡ 0
same_no x y ne = ap (λ b. cond b 1 0) (ne_eqb x y ne)

pub same_le : (x y : ℕ) → same x y ≤ 1
same_le x y = elim (cases_eq x y) [
  | inl e ↦ let h = same_yes x y e in
      omega arith
  | inr ne ↦ let h = same_no x y ne in omega arith
]

pub same_some : (x y : ℕ) → 0 < same x y → x ≡ y
same_some x y h = elim (cases_eq x y) [
  | inl e ↦ e
  | inr ne ↦ let z = same_no x y ne in
      absurd (omega arith)
]

pub total_same : {A : Type 0} (f g : A → ℕ) (xs : List A) → ((x : A) → f x ≡ g x)
    → total f xs ≡ total g xs
total_same f g [] e = refl
total_same f g (x ∷ xs) e = let h = e x in let r = total_same f g xs e in omega arith

-- one more at p alone
pub total_raised : (f g : ℕ → ℕ) (p : ℕ) (xs : List ℕ) → ((x : ℕ) → g x ≡ f x + same p x)
    → total g xs ≡ total f xs + times p xs
total_raised f g p [] e = refl
total_raised f g p (x ∷ xs) e = let h = e x in let r = total_raised f g p xs e in omega arith

pub total_none : {A : Type 0} (f : A → ℕ) (xs : List A) → ((x : A) → f x ≡ 0) → total f xs ≡ 0
total_none f [] e = refl
total_none f (x ∷ xs) e = let h = e x in let r = total_none f xs e in omega arith

pub total_le : {A : Type 0} (f : A → ℕ) (xs : List A) → ((x : A) → f x ≤ 1) → total f xs ≤ length xs
total_le f [] le = omega arith
total_le f (x ∷ xs) le = let h = le x in let r = total_le f xs le in omega arith

-- not all are counted where one is not
pub total_less : (f : ℕ → ℕ) (p : ℕ) (xs : List ℕ) → ((x : ℕ) → f x ≤ 1) → f p ≡ 0 → IsIn p xs
    → total f xs < length xs
total_less f p [] le none here = absurd (omega arith)
total_less f p (x ∷ xs) le none here = elim (cases_eq p x) [
  | inl e ↦ let h : f x ≡ 0 = subst (λ (y : ℕ). f y ≡ 0) e none in let r = total_le f xs le in
      omega arith
  | inr ne ↦ let h = le x in let z = same_no p x ne in
      let r = total_less f p xs le none (omega arith) in omega arith
]

pub total_full : (f : ℕ → ℕ) (p : ℕ) (xs : List ℕ) → ((x : ℕ) → f x ≤ 1) → total f xs ≡ length xs
    → IsIn p xs → f p ≡ 1
total_full f p xs le full here = let h = le p in elim (cases_eq (f p) 0) [
  | inl e ↦ let r = total_less f p xs le e here in absurd (omega arith)
  | inr ne ↦ omega arith
]

pub times_take-le : (x n : ℕ) (xs : List ℕ) → times x (take n xs) ≤ times x xs
times_take-le x zero xs = omega arith
times_take-le x (suc n) [] = omega arith
times_take-le x (suc n) (y ∷ xs) = let r = times_take-le x n xs in omega arith

pub times_more : (x b : ℕ) (xs : List ℕ) → b < length xs
    → times x (take (b + 1) xs) ≡ times x (take b xs) + same x (get_or xs b 0)
times_more x b [] h = absurd (omega arith)
times_more x zero (y ∷ xs) h = omega arith
times_more x (suc b) (y ∷ xs) h =
    let e : suc b + 1 ≡ suc (b + 1) = omega arith in let r = times_more x b xs (omega arith) in
    let P : ℕ → Type 0 = λ (m : ℕ). times x (take m (y ∷ xs))
    ≡ times x (take (suc b) (y ∷ xs)) + same x (get_or (y ∷ xs) (suc b) 0) in
    subst P (sym e) (omega arith)

pub times_all : (x : ℕ) (xs : List ℕ) → times x (take (length xs) xs) ≡ times x xs
times_all x [] = refl
times_all x (y ∷ xs) = let r = times_all x xs in omega arith

pub is_in_at : (xs : List ℕ) (i : ℕ) → i < length xs → IsIn (get_or xs i 0) xs
is_in_at [] i h = absurd (omega arith)
is_in_at (y ∷ xs) zero h = let e = same_yes y y refl in omega arith
is_in_at (y ∷ xs) (suc i) h = let r = is_in_at xs i (omega arith) in omega arith

pub place_of : (x : ℕ) (xs : List ℕ) → IsIn x xs → (i : ℕ) × (i < length xs) × (get_or xs i 0 ≡ x)
place_of x [] h = absurd (omega arith)
place_of x (y ∷ xs) h = elim (cases_eq x y) [
  | inl e ↦ (0, omega arith, sym e)
  | inr ne ↦ let z = same_no x y ne in let r = place_of x xs (omega arith) in
      (suc r.0, (let q = r.1 in omega arith), r.2)
]

-- an entry that stands in a list once does not stand before its place
pub times_before : (xs : List ℕ) (b : ℕ) → b < length xs → times (get_or xs b 0) xs ≤ 1
    → times (get_or xs b 0) (take b xs) ≡ 0
times_before xs b near once =
    let x : ℕ = get_or xs b 0 in let more = times_more x b xs near in
    let le = times_take-le x (b + 1) xs in let here = same_yes x x refl in omega arith

times_take-take : (x : ℕ) (xs : List ℕ) (a b : ℕ) → a ≤ b
    → times x (take a xs) ≤ times x (take b xs)
times_take-take x xs zero b h = omega arith
times_take-take x xs (suc a) zero h = absurd (omega arith)
times_take-take x [] (suc a) (suc b) h = omega arith
times_take-take x (y ∷ xs) (suc a) (suc b) h = let r = times_take-take x xs a b (omega arith) in
    omega arith

pub is_in_take : (xs : List ℕ) (i b : ℕ) → i < b → i < length xs → IsIn (get_or xs i 0) (take b xs)
is_in_take xs i b less near =
    let x : ℕ = get_or xs i 0 in let more = times_more x i xs near in
    let here = same_yes x x refl in let le = times_take-take x xs (i + 1) b (omega arith) in
    omega arith

pub place_once : (xs : List ℕ) (i j : ℕ) → times (get_or xs i 0) xs ≤ 1 → i < length xs
    → j < length xs → get_or xs i 0 ≡ get_or xs j 0 → i ≡ j
place_once xs i j once near near' e =
    let P : ℕ → Type 0 = λ (x : ℕ). times x xs ≤ 1 in let once' : times (get_or xs j 0) xs ≤ 1 =
    subst P e once in
    let a = times_before xs i near once in let b = times_before xs j near' once' in
    let clash : (x : ℕ) (m : ℕ) → IsIn x (take m xs) → times x (take m xs) ≡ 0
    → ⊥ = λ x m h z. omega arith in
    elim (cases_lt i j) [
      | inl less ↦ let Q : ℕ → Type 0 = λ (x : ℕ). IsIn x (take j xs) in
          absurd (clash (get_or xs j 0) j (subst Q e (is_in_take xs i j less near)) b)
      | inr ge ↦ elim (cases_lt j i) [
        | inl less ↦ let Q : ℕ → Type 0 = λ (x : ℕ). IsIn x (take i xs) in
            absurd (clash (get_or xs i 0) i (subst Q (sym e) (is_in_take xs j i less near')) a)
        | inr ge' ↦ omega arith
      ]
    ]

-- how many entries of a list are below n
tally : ℕ → List ℕ → ℕ
tally zero xs = 0
tally (suc n) xs = times n xs + tally n xs

tally_le : (n : ℕ) (xs : List ℕ) → ((x : ℕ) → times x xs ≤ 1) → tally n xs ≤ n
unfolding tally
tally_le zero xs once = omega arith
tally_le (suc n) xs once = let h = once n in let r = tally_le n xs once in omega arith

tally_above : (n x : ℕ) (xs : List ℕ) → n ≤ x → tally n (x ∷ xs) ≡ tally n xs
unfolding tally
tally_above zero x xs h = refl
tally_above (suc n) x xs h = let r = tally_above n x xs (omega arith) in
    let z = same_no n x (λ e. omega arith) in omega arith

tally_below : (n x : ℕ) (xs : List ℕ) → x < n → tally n (x ∷ xs) ≡ tally n xs + 1
unfolding tally
tally_below zero x xs h = absurd (omega arith)
tally_below (suc n) x xs h = elim (cases_eq n x) [
  | inl e ↦ let y = same_yes n x e in let r = tally_above n x xs (omega arith) in omega arith
  | inr ne ↦ let z = same_no n x ne in let r = tally_below n x xs (omega arith) in omega arith
]

tally_none : (n : ℕ) → tally n [] ≡ 0
unfolding tally
tally_none zero = refl
tally_none (suc n) = let r = tally_none n in omega arith

tally_all : (n : ℕ) (xs : List ℕ) → ((x : ℕ) → IsIn x xs → x < n) → tally n xs ≡ length xs
tally_all n [] near = tally_none n
tally_all n (x ∷ xs) near = let y = same_yes x x refl in
    let b = tally_below n x xs (near x (omega arith)) in
    let r = tally_all n xs (λ z h. near z (omega arith)) in omega arith

-- a list of numbers below n that has each once is no longer than n
pub length_le : (n : ℕ) (xs : List ℕ) → ((x : ℕ) → times x xs ≤ 1) → ((x : ℕ) → IsIn x xs → x < n)
    → length xs ≤ n
length_le n xs once near = let a = tally_le n xs once in let b = tally_all n xs near in omega arith

pub total_ones : (f : ℕ → ℕ) (xs : List ℕ) → ((x : ℕ) → IsIn x xs → f x ≡ 1)
    → total f xs ≡ length xs
total_ones f [] e = refl
total_ones f (x ∷ xs) e = let y = same_yes x x refl in let h = e x (omega arith) in
    let r = total_ones f xs (λ z i. e z (omega arith)) in omega arith
