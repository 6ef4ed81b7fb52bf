-- What indices reach when a program runs is what they may mean at compile time.
use Rattle.std.proofs.Common.{◌≡◌, ℕ, zero, suc, ◌+◌, ◌*◌, ◌<◌, ◌≤◌, Bool, true, false, ◌&&◌}
use Rattle.std.proofs.Common.{nat_lt, List, [], ◌∷◌, ◌++◌, map, flat_map, length, Option, Some}
use Rattle.std.proofs.Common.{None, is_some, refl, sym, ap, subst, inl, inr, ◌⊎◌, zero-le}
use Rattle.std.proofs.Common.{eq-or-lt_of_le, ◌∙◌, arith}
use Rattle.std.specs.Prelude.{⊤}
use Rattle.std.specs.List.{list_all}
use Rattle.std.proofs.lemmas.Bool.{ltb-true}
use Rattle.cir_meaning.specs.Places.{elements, left_of, is_inside, followed, all_known}
use Rattle.cir_meaning.specs.Places.{numbers_from, places_of}

-- a known index is the number
abbrev pub IndexSame : Option ℕ → ℕ → Type 0
IndexSame None n = ⊤
IndexSame (Some k) n = k ≡ n

abbrev pub IndicesSame : List (Option ℕ) → List ℕ → Type 0
IndicesSame [] [] = ⊤
IndicesSame [] (n ∷ ns) = ⊥
IndicesSame (o ∷ os) [] = ⊥
IndicesSame (o ∷ os) (n ∷ ns) = IndexSame o n × IndicesSame os ns

pub indices_more : (os : List (Option ℕ)) (ns : List ℕ) (o : Option ℕ) (n : ℕ) → IndicesSame os ns
    → IndexSame o n
    → IndicesSame (os ++ o ∷ []) (ns ++ n ∷ [])
indices_more [] [] o n h g = (g, tt)
indices_more [] (m ∷ ms) o n h g = absurd h
indices_more (o' ∷ os) [] o n h g = absurd h
indices_more (o' ∷ os) (m ∷ ms) o n h g = (h.0, indices_more os ms o n h.1 g)

pub and_true : (a b : Bool) → (a && b) ≡ true → (a ≡ true) × (b ≡ true)
and_true true b h = (refl, h)
and_true false b h = cc

and_is : (a b : Bool) → a ≡ true → b ≡ true → (a && b) ≡ true
and_is true b h g = g
and_is false b h g = cc

pub left_same : (dims : List ℕ) (os : List (Option ℕ)) (ns : List ℕ) → IndicesSame os ns
    → left_of dims os ≡ left_of dims (map Some ns)
left_same dims [] [] h = refl
left_same dims [] (n ∷ ns) h = absurd h
left_same dims (o ∷ os) [] h = absurd h
left_same [] (o ∷ os) (n ∷ ns) h = refl
left_same (d ∷ ds) (o ∷ os) (n ∷ ns) h = left_same ds os ns h.1

pub inside_same : (dims : List ℕ) (os : List (Option ℕ)) (ns : List ℕ) → IndicesSame os ns
    → is_inside dims (map Some ns) ≡ true → is_inside dims os ≡ true
inside_same dims [] [] h i = refl
inside_same dims [] (n ∷ ns) h i = absurd h
inside_same dims (o ∷ os) [] h i = absurd h
inside_same [] (o ∷ os) (n ∷ ns) h i = refl
inside_same (d ∷ ds) (None ∷ os) (n ∷ ns) h i =
    inside_same ds os ns h.1 (and_true (nat_lt n d) _ i).1
inside_same (d ∷ ds) (Some k ∷ os) (n ∷ ns) h i =
    let both : (nat_lt n d ≡ true) × (is_inside ds (map Some ns) ≡ true) = and_true (nat_lt n d) _ i
    in
    and_is (nat_lt k d) _ (subst (λ a. nat_lt a d ≡ true) (sym h.0) both.0)
    (inside_same ds os ns h.1 both.1)

-- where all are known they are the numbers
some_followed : (k : ℕ) (o : Option (List ℕ)) → is_some (followed k o) ≡ true → is_some o ≡ true
some_followed k None h = h
some_followed k (Some is) h = refl

pub all_same : (os : List (Option ℕ)) (ns : List ℕ) → IndicesSame os ns
    → is_some (all_known os) ≡ true → os ≡ map Some ns
all_same [] [] h s = refl
all_same [] (n ∷ ns) h s = absurd h
all_same (o ∷ os) [] h s = absurd h
all_same (None ∷ os) (n ∷ ns) h s = cc
all_same (Some k ∷ os) (n ∷ ns) h s =
    ap (λ (a : ℕ). Some a ∷ os) h.0 ∙ ap (λ (rest : List (Option ℕ)). Some n ∷ rest)
    (all_same os ns h.1 (some_followed k (all_known os) s))

-- tests over lists
all_of_map : {A B : Type 0} (test : B → Bool) (f : A → B) (xs : List A)
    → list_all test (map f xs) ≡ list_all (λ a. test (f a)) xs
all_of_map test f [] = refl
all_of_map test f (x ∷ xs) = ap (λ (b : Bool). test (f x) && b) (all_of_map test f xs)

all_left : {A : Type 0} (test : A → Bool) (xs ys : List A) → list_all test (xs ++ ys) ≡ true
    → list_all test xs ≡ true
all_left test [] ys h = refl
all_left test (x ∷ xs) ys h =
    let both : (test x ≡ true) × (list_all test (xs ++ ys) ≡ true) = and_true (test x) _ h in and_is
    (test x) _ both.0 (all_left test xs ys both.1)

all_right : {A : Type 0} (test : A → Bool) (xs ys : List A) → list_all test (xs ++ ys) ≡ true
    → list_all test ys ≡ true
all_right test [] ys h = h
all_right test (x ∷ xs) ys h = all_right test xs ys (and_true (test x) _ h).1

-- of each row
not-lt : (n first : ℕ) → first ≤ n → n < first + 0 → ⊥
not-lt n first l u = omega arith

eq_or_less : (n first : ℕ) → first ≤ n → (first ≡ n) ⊎ (first + 1 ≤ n)
eq_or_less n first l = from_lt (eq-or-lt_of_le l)
  where
    from_lt : (first ≡ n) ⊎ (first < n) → (first ≡ n) ⊎ (first + 1 ≤ n)
    from_lt (inl e) = inl e
    from_lt (inr m) = inr (omega arith)

upper : (n first count : ℕ) → n < first + suc count → n < first + 1 + count
upper n first count u = omega arith

row_at : (test : ℕ → Bool) (f : ℕ → List ℕ) (first n : ℕ) → list_all test (f first) ≡ true
    → (first + 1 ≤ n → list_all test (f n) ≡ true) → (first ≡ n) ⊎ (first + 1 ≤ n) → list_all test
    (f n) ≡ true
row_at test f first n h go (inl e) = subst (λ a. list_all test (f a) ≡ true) e h
row_at test f first n h go (inr m) = go m

row_of : (test : ℕ → Bool) (f : ℕ → List ℕ) (first count n : ℕ)
    → list_all test (flat_map f (numbers_from first count)) ≡ true
    → first ≤ n → n < first + count → list_all test (f n) ≡ true
row_of test f first zero n h l u = absurd (not-lt n first l u)
row_of test f first (suc count) n h l u =
    row_at test f first n (all_left test (f first) _ h)
    (λ m. row_of test f (first + 1) count n (all_right test (f first) _ h) m
    (upper n first count u)) (eq_or_less n first l)

below_count : (n d : ℕ) → nat_lt n d ≡ true → n < 0 + d
below_count n d e = let l : n < d = ltb-true n d e in omega arith

-- what holds at all places that are meant holds at those that are reached
pub reached_pass : (test : ℕ → Bool) (dims : List ℕ) (os : List (Option ℕ)) (ns : List ℕ)
    → IndicesSame os ns
    → is_inside dims (map Some ns) ≡ true → list_all test (places_of dims os) ≡ true → list_all test
    (places_of dims (map Some ns)) ≡ true
reached_pass test dims [] [] h i t = t
reached_pass test dims [] (n ∷ ns) h i t = absurd h
reached_pass test dims (o ∷ os) [] h i t = absurd h
reached_pass test [] (o ∷ os) (n ∷ ns) h i t = refl
reached_pass test (d ∷ ds) (Some k ∷ os) (n ∷ ns) h i t =
    let both : (nat_lt n d ≡ true) × (is_inside ds (map Some ns) ≡ true) = and_true (nat_lt n d) _ i
    in
    let row : list_all (λ j. test (k * elements ds + j)) (places_of ds os) ≡ true = sym
    (all_of_map test (λ j. k * elements ds + j) (places_of ds os)) ∙ t in
    let there : list_all (λ j. test (k * elements ds + j)) (places_of ds (map Some ns)) ≡ true =
    reached_pass (λ j. test (k * elements ds + j)) ds os ns h.1 both.1 row in
    subst (λ a. list_all test (map (λ j. a * elements ds + j) (places_of ds (map Some ns))) ≡ true)
    h.0
    (all_of_map test (λ j. k * elements ds + j) (places_of ds (map Some ns)) ∙ there)
reached_pass test (d ∷ ds) (None ∷ os) (n ∷ ns) h i t =
    let both : (nat_lt n d ≡ true) × (is_inside ds (map Some ns) ≡ true) = and_true (nat_lt n d) _ i
    in
    let below : n < 0 + d = below_count n d both.0 in
    let line : list_all test (map (λ j. n * elements ds + j) (places_of ds os)) ≡ true =
    row_of test (λ a. map (λ j. a * elements ds + j) (places_of ds os)) 0 d n t zero-le below in
    let row : list_all (λ j. test (n * elements ds + j)) (places_of ds os) ≡ true = sym
    (all_of_map test (λ j. n * elements ds + j) (places_of ds os)) ∙ line in
    all_of_map test (λ j. n * elements ds + j) (places_of ds (map Some ns))
    ∙ reached_pass (λ j. test (n * elements ds + j)) ds os ns h.1 both.1 row

-- how many places are reached
numbers_count : (first count : ℕ) → length (numbers_from first count) ≡ count
numbers_count first zero = refl
numbers_count first (suc count) = ap (λ (a : ℕ). suc a) (numbers_count (first + 1) count)

pub map_count : {A B : Type 0} (f : A → B) (xs : List A) → length (map f xs) ≡ length xs
map_count f [] = refl
map_count f (x ∷ xs) = ap (λ (a : ℕ). suc a) (map_count f xs)

some_list : (a b : List ℕ) → Some a ≡ Some b → a ≡ b
some_list a b e = cc

pub reached_count : (dims ns left : List ℕ) → left_of dims (map Some ns) ≡ Some left
    → length (places_of dims (map Some ns)) ≡ elements left
reached_count dims [] left e = numbers_count 0 (elements dims) ∙ ap elements (some_list dims left e)
reached_count [] (n ∷ ns) left e = cc
reached_count (d ∷ ds) (n ∷ ns) left e =
    map_count (λ j. n * elements ds + j) (places_of ds (map Some ns)) ∙ reached_count ds ns left e
