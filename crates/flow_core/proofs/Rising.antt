-- Rising lists, and lists with one more entry
use Rattle.std.proofs.Common.{◌≡◌, ◌≢◌, ℕ, zero, suc, ◌+◌, ◌-◌, ◌<◌, ◌≤◌, List, [], ◌∷◌, ◌++◌}
use Rattle.std.proofs.Common.{length, get_or, refl, sym, ◌∙◌, subst, inl, inr, arith, length-append}
use Rattle.std.specs.List.Sorted.{IsStrictlyIncreasing}
use Rattle.std.proofs.lemmas.Bool.{cases_eq, cases_lt}
use Rattle.std.proofs.lemmas.List.{get_or_past}
use Rattle.flow_core.specs.Counts.{same, times, IsIn}
use Rattle.flow_core.specs.Drawn.{row}
use Rattle.flow_core.proofs.Totals.{is_in_at, place_of}

pub times_push : (x y : ℕ) (xs : List ℕ) → times x (xs ++ y ∷ []) ≡ times x xs + same x y
times_push x y [] = omega arith
times_push x y (z ∷ xs) = let r = times_push x y xs in omega arith

push_left : {A : Type 0} (xs : List A) (x d : A) (i : ℕ) → i < length xs
    → get_or (xs ++ x ∷ []) i d ≡ get_or xs i d
push_left [] x d i h = absurd (omega arith)
push_left (y ∷ xs) x d zero h = refl
push_left (y ∷ xs) x d (suc i) h = push_left xs x d i (omega arith)

push_last : {A : Type 0} (xs : List A) (x d : A) → get_or (xs ++ x ∷ []) (length xs) d ≡ x
push_last [] x d = refl
push_last (y ∷ xs) x d = push_last xs x d

-- the rows of a list of lists with one more
pub row_push_here : (xs : List (List ℕ)) (x : List ℕ) (n : ℕ) → length xs ≡ n
    → row (xs ++ x ∷ []) n ≡ x
row_push_here xs x n e = subst (λ (m : ℕ). row (xs ++ x ∷ []) m ≡ x) e (push_last xs x [])

pub row_push_else : (xs : List (List ℕ)) (x : List ℕ) (n j : ℕ) → length xs ≡ n → j ≢ n
    → row (xs ++ x ∷ []) j ≡ row xs j
row_push_else xs x n j e ne = elim (cases_lt j (length xs)) [
  | inl less ↦ push_left xs x [] j less
  | inr ge ↦ (let l = length-append xs (x ∷ []) in get_or_past (xs ++ x ∷ []) j [] (omega arith)
      ∙ sym (get_or_past xs j [] ge))
]

-- a later entry of a rising list is greater
rises_far : (xs : List ℕ) → IsStrictlyIncreasing xs → (i j : ℕ) → i < j → j < length xs
    → get_or xs i 0 < get_or xs j 0
rises_far xs h i zero less near = absurd (omega arith)
rises_far xs h i (suc j) less near = let up = h j (omega arith) in
    let P : ℕ → Type 0 = λ m. get_or xs i 0 < get_or xs m 0 in
    let e : j + 1 ≡ suc j = omega arith in
    subst P e (elim (cases_eq i j) [
      | inl same-i ↦ (let Q : ℕ → Type 0 = λ m. get_or xs m 0 < get_or xs (j + 1) 0 in
          subst Q (sym same-i) up)
      | inr ne ↦ (let r = rises_far xs h i j (omega arith) (omega arith) in omega arith)
    ])

-- the greatest number that may stand in a rising list is its last, if it stands there
pub last_is : (xs : List ℕ) (k : ℕ) → IsStrictlyIncreasing xs → ((j : ℕ) → IsIn j xs → j ≤ k)
    → IsIn k xs → (0 < length xs) × (get_or xs (length xs - 1) 0 ≡ k)
last_is xs k h bound here = let p = place_of k xs here in let near = p.1 in let is = p.2 in
    elim (cases_lt p.0 (length xs - 1)) [
      | inl less ↦ (let up = rises_far xs h p.0 (length xs - 1) less (omega arith) in
          let le = bound (get_or xs (length xs - 1) 0)
          (is_in_at xs (length xs - 1) (omega arith)) in
          absurd (omega arith))
      | inr ge ↦ (let e : p.0 ≡ length xs - 1 = omega arith in
          ((omega arith), subst (λ (i : ℕ). get_or xs i 0 ≡ k) e is))
    ]

pub rises_push : (xs : List ℕ) (k : ℕ) → IsStrictlyIncreasing xs → ((j : ℕ) → IsIn j xs → j < k)
    → IsStrictlyIncreasing (xs ++ k ∷ [])
rises_push xs k h bound i less = let l = length-append xs (k ∷ []) in
    elim (cases_lt (i + 1) (length xs)) [
      | inl near ↦ (let a = push_left xs k 0 i (omega arith) in
          let b = push_left xs k 0 (i + 1) near in let up = h i near in omega arith)
      | inr ge ↦ (
          let a = push_left xs k 0 i (omega arith) in let e : length xs ≡ i + 1 = omega arith in
          let b : get_or (xs ++ k ∷ []) (i + 1) 0 ≡ k =
          subst (λ (m : ℕ). get_or (xs ++ k ∷ []) m 0 ≡ k) e (push_last xs k 0) in
          let up = bound (get_or xs i 0) (is_in_at xs i (omega arith)) in omega arith)
    ]
