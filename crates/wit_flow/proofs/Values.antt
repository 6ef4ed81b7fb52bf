-- Cells that get values, and cells that two lists of cells hold alike
use Rattle.std.proofs.Common.{◌≡◌, ◌≢◌, ℕ, zero, suc, ◌+◌, ◌<◌, ◌≤◌, ◌⊎◌, cond, Bool, true, List}
use Rattle.std.proofs.Common.{[], ◌∷◌, ◌++◌, length, drop, get_or, set, refl, sym, ◌∙◌, ap, subst}
use Rattle.std.proofs.Common.{inl, inr, arith, Option, Some, None, is_some, unwrap_or}
use Rattle.std.proofs.Common.{get_or-set_same, get_or-set_other}
use Rattle.std.proofs.lemmas.List.{drop_more, get_or_read}
use Rattle.std.proofs.lemmas.Bool.{and_parts, cases_eq, eq-eqb, ne_eqb}
use Rattle.std.specs.Prelude.{◌&&◌}
use Rattle.flow_core.specs.Counts.{times, IsIn}
use Rattle.flow_core.proofs.Totals.{same_yes, same_no}
use Rattle.wit_flow.specs.Cells.{Cells, with_value, with_values, number_at, numbers_at, have_values}
use Rattle.wit_flow.specs.Cells.{held}

pub with_value_here : (a : Cells) (c x : ℕ) → with_value a c x c ≡ Some x
with_value_here a c x = ap (λ (b : Bool). cond b (Some x) (a c)) (eq-eqb c c refl)

pub with_value_else : (a : Cells) (c x d : ℕ) → d ≢ c → with_value a c x d ≡ a d
with_value_else a c x d ne = ap (λ (b : Bool). cond b (Some x) (a d)) (ne_eqb d c ne)

pub here_first : (d : ℕ) (cs : List ℕ) → IsIn d (d ∷ cs)
here_first d cs = let y = same_yes d d refl in omega arith

pub here_later : (c d : ℕ) (cs : List ℕ) → IsIn c cs → IsIn c (d ∷ cs)
here_later c d cs h = omega arith

pub in_cons : (c d : ℕ) (cs : List ℕ) → IsIn c (d ∷ cs) → (c ≡ d) ⊎ IsIn c cs
in_cons c d cs h = elim (cases_eq c d) [
  | inl e ↦ inl e
  | inr ne ↦ (let z = same_no c d ne in inr (omega arith))
]

pub cases_in : (c : ℕ) (cs : List ℕ) → IsIn c cs ⊎ (IsIn c cs → ⊥)
cases_in c cs = elim (cases_eq (times c cs) 0) [
  | inl e ↦ inr (λ h. omega arith)
  | inr ne ↦ inl (omega arith)
]

pub times-append : (c : ℕ) (xs ys : List ℕ) → times c (xs ++ ys) ≡ times c xs + times c ys
times-append c [] ys = omega arith
times-append c (x ∷ xs) ys = let r = times-append c xs ys in omega arith

pub in_left : (c : ℕ) (xs ys : List ℕ) → IsIn c xs → IsIn c (xs ++ ys)
in_left c xs ys h = let e = times-append c xs ys in omega arith

pub in_right : (c : ℕ) (xs ys : List ℕ) → IsIn c ys → IsIn c (xs ++ ys)
in_right c xs ys h = let e = times-append c xs ys in omega arith

pub in_either : (c : ℕ) (xs ys : List ℕ) → IsIn c (xs ++ ys) → IsIn c xs ⊎ IsIn c ys
in_either c xs ys h = let e = times-append c xs ys in elim (cases_in c xs) [
  | inl here ↦ inl here
  | inr out ↦
      elim (cases_in c ys) [
        | inl there ↦ inr there
        | inr out' ↦
            absurd (neither (times c xs) (times c ys) (times c (xs ++ ys)) e h out out')
      ]
]
  where
    neither : (a b n : ℕ) → n ≡ a + b → 0 < n → (0 < a → ⊥) → (0 < b → ⊥) → ⊥
    neither zero zero n e h out out' = omega arith
    neither (suc a) b n e h out out' = out (omega arith)
    neither zero (suc b) n e h out out' = out' (omega arith)

-- the cell has a value
abbrev pub HasOne : Cells → ℕ → Type 0
HasOne a c = (x : ℕ) × (a c ≡ Some x)

pub with_values_none : (a : Cells) (cs : List ℕ) → with_values a cs [] ≡ a
with_values_none a [] = refl
with_values_none a (c ∷ cs) = refl

pub with_values-append : (a : Cells) (cs ds xs ys : List ℕ) → length cs ≡ length xs
    → with_values a (cs ++ ds) (xs ++ ys) ≡ with_values (with_values a cs xs) ds ys
with_values-append a [] ds [] ys e = refl
with_values-append a [] ds (x ∷ xs) ys e = absurd (omega arith)
with_values-append a (c ∷ cs) ds [] ys e = absurd (omega arith)
with_values-append a (c ∷ cs) ds (x ∷ xs) ys e =
    with_values-append (with_value a c x) cs ds xs ys (omega arith)

-- cells past the last value keep theirs
pub with_values_few : (a : Cells) (cs ds xs : List ℕ) → length xs ≤ length cs
    → with_values a (cs ++ ds) xs ≡ with_values a cs xs
with_values_few a [] ds [] h = with_values_none a ds
with_values_few a [] ds (x ∷ xs) h = absurd (omega arith)
with_values_few a (c ∷ cs) ds [] h = refl
with_values_few a (c ∷ cs) ds (x ∷ xs) h = with_values_few (with_value a c x) cs ds xs (omega arith)

pub with_values_else : (a : Cells) (cs xs : List ℕ) (c : ℕ) → (IsIn c cs → ⊥)
    → with_values a cs xs c ≡ a c
with_values_else a [] xs c out = refl
with_values_else a (d ∷ cs) [] c out = refl
with_values_else a (d ∷ cs) (x ∷ xs) c out =
    with_values_else (with_value a d x) cs xs c (λ h. out (here_later c d cs h))
    ∙ with_value_else a d x c (λ e. out (subst (λ y. IsIn y (d ∷ cs)) (sym e) (here_first d cs)))

-- a cell of the list gets a value, and every cell keeps one if it has one
pub with_values_keep : (a : Cells) (cs xs : List ℕ) (c : ℕ) → HasOne a c
    → HasOne (with_values a cs xs) c
with_values_keep a [] xs c h = h
with_values_keep a (d ∷ cs) [] c h = h
with_values_keep a (d ∷ cs) (x ∷ xs) c h =
    with_values_keep (with_value a d x) cs xs c (elim (cases_eq c d) [
      | inl e ↦ (x, subst (λ y. with_value a d x y ≡ Some x) (sym e) (with_value_here a d x))
      | inr ne ↦ (h.0, with_value_else a d x c ne ∙ h.1)
    ])

pub with_values_has : (a : Cells) (cs xs : List ℕ) (c : ℕ) → length cs ≡ length xs → IsIn c cs
    → HasOne (with_values a cs xs) c
with_values_has a [] xs c e h = absurd (omega arith)
with_values_has a (d ∷ cs) [] c e h = absurd (omega arith)
with_values_has a (d ∷ cs) (x ∷ xs) c e h = elim (in_cons c d cs h) [
  | inl here ↦
      with_values_keep (with_value a d x) cs xs c
      (x, subst (λ y. with_value a d x y ≡ Some x) (sym here) (with_value_here a d x))
  | inr later ↦ with_values_has (with_value a d x) cs xs c (omega arith) later
]

-- the value of a cell that the list names once is at its place
pub with_values_at : (a : Cells) (cs xs : List ℕ) (i : ℕ) → length cs ≡ length xs → i < length cs
    → times (get_or cs i 0) cs ≤ 1 → with_values a cs xs (get_or cs i 0) ≡ Some (get_or xs i 0)
with_values_at a [] xs i e near once = absurd (omega arith)
with_values_at a (d ∷ cs) [] i e near once = absurd (omega arith)
with_values_at a (d ∷ cs) (x ∷ xs) zero e near once =
    let y = same_yes d d refl in
    with_values_else (with_value a d x) cs xs d (λ h. omega arith) ∙ with_value_here a d x
with_values_at a (d ∷ cs) (x ∷ xs) (suc i) e near once =
    with_values_at (with_value a d x) cs xs i (omega arith) (omega arith) (omega arith)

-- what two cells differ in is lost where both get the same values
pub with_values_same : (a b : Cells) (cs xs : List ℕ) (c : ℕ) → length cs ≡ length xs
    → ((IsIn c cs → ⊥) → a c ≡ b c) → with_values a cs xs c ≡ with_values b cs xs c
with_values_same a b [] xs c e h = h (λ here. omega arith)
with_values_same a b (d ∷ cs) [] c e h = absurd (omega arith)
with_values_same a b (d ∷ cs) (x ∷ xs) c e h =
    with_values_same (with_value a d x) (with_value b d x) cs xs c (omega arith)
    (λ out. elim (cases_eq c d) [
      | inl here ↦
          subst (λ y. with_value a d x y ≡ with_value b d x y) (sym here) (with_value_here a d x
          ∙ sym (with_value_here b d x))
      | inr ne ↦ with_value_else a d x c ne
          ∙ h (λ here. elim (in_cons c d cs here) [ inl q ↦ ne q | inr q ↦ out q ])
          ∙ sym (with_value_else b d x c ne)
    ])

pub numbers_same : (a b : Cells) (cs : List ℕ) → ((c : ℕ) → IsIn c cs → a c ≡ b c)
    → numbers_at a cs ≡ numbers_at b cs
numbers_same a b [] h = refl
numbers_same a b (d ∷ cs) h =
    let p : number_at a d ≡ number_at b d =
    ap (λ (o : Option ℕ). unwrap_or o 0) (h d (here_first d cs)) in
    let q = numbers_same a b cs (λ c here. h c (here_later c d cs here)) in
    λ i. p i ∷ q i

number_is : (o : Option ℕ) → (x : ℕ) → o ≡ Some x → Some (unwrap_or o 0) ≡ o
number_is o x e = ap (λ (q : Option ℕ). Some (unwrap_or q 0)) e ∙ sym e

-- cells that get the numbers that others hold hold the same
pub with_numbers : (a b : Cells) (cs : List ℕ) (c : ℕ) → ((d : ℕ) → IsIn d cs → HasOne b d)
    → IsIn c cs → with_values a cs (numbers_at b cs) c ≡ b c
with_numbers a b [] c all h = absurd (omega arith)
with_numbers a b (d ∷ cs) c all h = elim (cases_in c cs) [
  | inl later ↦
      with_numbers (with_value a d (number_at b d)) b cs c
      (λ e here. all e (here_later e d cs here)) later
  | inr out ↦ (let o = all d (here_first d cs) in let here : c ≡ d = first c d cs h out in
      with_values_else (with_value a d (number_at b d)) cs (numbers_at b cs) c out
      ∙ subst (λ y. with_value a d (number_at b d) y ≡ b y) (sym here)
      (with_value_here a d (number_at b d) ∙ number_is (b d) o.0 o.1))
]
  where
    first : (c d : ℕ) (cs : List ℕ) → IsIn c (d ∷ cs) → (IsIn c cs → ⊥) → c ≡ d
    first c d cs h out = elim (in_cons c d cs h) [ inl e ↦ e | inr later ↦ absurd (out later) ]

some_true : (o : Option ℕ) → is_some o ≡ true → (x : ℕ) × (o ≡ Some x)
some_true None e = cc
some_true (Some x) e = (x, refl)

pub have_one : (a : Cells) (cs : List ℕ) → have_values a cs ≡ true → (c : ℕ) → IsIn c cs
    → HasOne a c
have_one a [] e c h = absurd (omega arith)
have_one a (d ∷ cs) e c h =
    let p = and_parts (is_some (a d)) (have_values a cs) e in elim (in_cons c d cs h) [
      | inl here ↦ subst (HasOne a) (sym here) (some_true (a d) p.0)
      | inr later ↦ have_one a cs p.1 c later
    ]

pub have_all : (a : Cells) (cs : List ℕ) → ((c : ℕ) → IsIn c cs → HasOne a c)
    → have_values a cs ≡ true
have_all a [] h = refl
have_all a (d ∷ cs) h =
    let o = h d (here_first d cs) in
    let r = have_all a cs (λ c here. h c (here_later c d cs here)) in
    ap (λ (q : Option ℕ). is_some q && have_values a cs) o.1 ∙ r

-- a list of cells after a write
pub held-set : (list : List (Option ℕ)) (c x : ℕ) → c < length list
    → held (set list c (Some x)) ≡ with_value (held list) c x
held-set list c x near = λ i d. held_at d i
  where
    held_at : (d : ℕ) → held (set list c (Some x)) d ≡ with_value (held list) c x d
    held_at d = elim (cases_eq d c) [
      | inl e ↦ subst (λ y. held (set list c (Some x)) y ≡ with_value (held list) c x y) (sym e)
          (get_or-set_same list c (Some x) None near ∙ sym (with_value_here (held list) c x))
      | inr ne ↦ get_or-set_other list c d (Some x) None ne
          ∙ sym (with_value_else (held list) c x d ne)
    ]

-- one value more is put into a cell of a list
pub put_more : (list : List (Option ℕ)) (cs xs : List ℕ) (i v : ℕ) → i < length cs → i < length xs
    → get_or cs i 0 < length list → v ≡ get_or xs i v
    → with_values (held (set list (get_or cs i 0) (Some v))) (drop (i + 1) cs) (drop (i + 1) xs)
    ≡ with_values (held list) (drop i cs) (drop i xs)
put_more list cs xs i v less less' near is =
    let c : ℕ = get_or cs i 0 in let is' : v ≡ get_or xs i 0 = get_or_read xs i v less' is 0 in
    ap (λ (a : Cells). with_values a (drop (i + 1) cs) (drop (i + 1) xs)) (held-set list c v near)
    ∙ ap (λ x. with_values (with_value (held list) c x) (drop (i + 1) cs) (drop (i + 1) xs)) is'
    ∙ sym (λ j. with_values (held list) (drop_more cs i 0 less j) (drop_more xs i 0 less' j))
