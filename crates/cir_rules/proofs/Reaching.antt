-- What is reached round by round is what is reached one after the other.
use Rattle.std.proofs.Common.{ℕ, zero, suc, ◌≡◌, ◌∙◌, ◌+◌, ◌<◌, ◌≤◌, ◌-◌, ◌^◌, List, [], ◌∷◌, ◌++◌}
use Rattle.std.proofs.Common.{length, get_or, take, drop, refl, ap, sym, append_assoc, append-nil}
use Rattle.std.proofs.Common.{length-append, add-one, Bor, arith}
use Rattle.std.specs.Prelude.{Bool, true, false, ◌||◌, if◌then◌else◌, map, flat_map, Option, Some}
use Rattle.std.specs.Prelude.{None, slice_get}
use Rattle.std.specs.List.{list_any}
use Rattle.std.proofs.lemmas.List.{take_all, drop_all, drop_more}
use Rattle.std.specs.Option.{option_map, option_copied}
use Rattle.std.specs.Slice.{IsItemAt}
use Rattle.std.proofs.lemmas.Option.{slice_get-map, slice_get_past, slice_get_read}
use Rattle.cir_meaning.specs.Reached.{new_ones, reached, rounds, all_reached}
use Rattle.cir_rules.specs.Queue.{with_new, calls_of, visited, told}

-- ---- what is new depends on what is known by its members alone
chosen : {A : Type 0} (b c : Bool) (x y z w : List A) → b ≡ c → x ≡ z → y ≡ w
    → (if b then x else y) ≡ (if c then z else w)
chosen b c x y z w e f g =
    ap (λ t. if t then x else y) e ∙ ap (λ t. if c then t else y) f ∙ ap (λ t. if c then z else t) g

new_ones-same : {A : Type 0} (same : A → A → Bool) (xs known others : List A)
    → ((a : A) → list_any (same a) known ≡ list_any (same a) others)
    → new_ones same known xs ≡ new_ones same others xs
new_ones-same same [] known others h = refl
new_ones-same same (x ∷ xs) known others h =
    chosen _ _ _ _ _ _ (h x) (new_ones-same same xs known others h)
    (ap (λ rest. x ∷ rest) (new_ones-same same xs (x ∷ known) (x ∷ others)
    (λ a. ap (λ b. same a x || b) (h a))))

swapped : (a b c : Bool) → (a || (b || c)) ≡ (b || (a || c))
swapped true true c = refl
swapped true false c = refl
swapped false b c = refl

pub moved : {A : Type 0} (test : A → Bool) (x : A) (xs ys : List A)
    → list_any test ((x ∷ xs) ++ ys) ≡ list_any test (xs ++ x ∷ ys)
moved test x [] ys = refl
moved test x (z ∷ xs) ys =
    swapped (test x) (test z) (list_any test (xs ++ ys))
    ∙ ap (λ b. test z || b) (moved test x xs ys)

pub new_ones-append : {A : Type 0} (same : A → A → Bool) (xs ys known : List A)
    → new_ones same known (xs ++ ys)
    ≡ new_ones same known xs ++ new_ones same (known ++ new_ones same known xs) ys
new_ones-append same [] ys known = ap (λ k. new_ones same k ys) (sym (append-nil known))
new_ones-append same (x ∷ xs) ys known =
    elim (list_any (same x) known) as (λ b.
    (if b then new_ones same known (xs ++ ys) else x ∷ new_ones same (x ∷ known) (xs ++ ys))
    ≡ (if b then new_ones same known xs else x ∷ new_ones same (x ∷ known) xs)
    ++ new_ones same
    (known ++ (if b then new_ones same known xs else x ∷ new_ones same (x ∷ known) xs)) ys) [
      | true ↦ new_ones-append same xs ys known
      | false ↦
          ap (λ rest. x ∷ rest) (new_ones-append same xs ys (x ∷ known)
          ∙ ap (λ rest. new_ones same (x ∷ known) xs ++ rest)
          (new_ones-same same ys _ _ (λ a. moved (same a) x known (new_ones same (x ∷ known) xs))))
    ]

pub with_new-append : {A : Type 0} (same : A → A → Bool) (known xs ys : List A)
    → with_new same (with_new same known xs) ys ≡ with_new same known (xs ++ ys)
with_new-append same known xs ys =
    append_assoc known (new_ones same known xs) _
    ∙ ap (λ rest. known ++ rest) (sym (new_ones-append same xs ys known))

-- one turn of a loop that adds what is new
pub walked : {A B : Type 0} (same : A → A → Bool) (listed : List B → List A) (items : List B)
    (i : ℕ) (x : B) (next known new total : List A) → i < length items → x ≡ get_or items i x
    → listed (x ∷ drop (i + 1) items) ≡ next ++ listed (drop (i + 1) items)
    → new ≡ with_new same known next → with_new same known (listed (drop i items)) ≡ total
    → with_new same new (listed (drop (i + 1) items)) ≡ total
walked same listed items i x next known new total lt is cons e before =
    ap (λ k. with_new same k (listed (drop (i + 1) items))) e
    ∙ with_new-append same known next (listed (drop (i + 1) items))
    ∙ ap (with_new same known) (sym cons ∙ ap (λ y. listed (y ∷ drop (i + 1) items)) is
    ∙ ap listed (sym (drop_more items i x lt)))
    ∙ before

pub walked_all : {A B : Type 0} (same : A → A → Bool) (listed : List B → List A) (items : List B)
    (i : ℕ) (known total : List A) → length items ≤ i → listed [] ≡ []
    → with_new same known (listed (drop i items)) ≡ total → known ≡ total
walked_all same listed items i known total le none before =
    sym (append-nil known)
    ∙ ap (with_new same known) (sym none ∙ ap listed (sym (drop_all i items le)))
    ∙ before

-- ---- one after the other
abbrev pub steps : {A : Type 0} → (A → A → Bool) → (A → List A) → List A → ℕ → List A
steps same calls first zero = new_ones same [] first
steps same calls first (suc n) = visited same calls n (steps same calls first n)

slice_get-at : {A : Type 0} (xs : List A) (y : A) (ys : List A)
    → slice_get (xs ++ y ∷ ys) (length xs) ≡ Some y
slice_get-at [] y ys = refl
slice_get-at (x ∷ xs) y ys = slice_get-at xs y ys

grows : {A : Type 0} (same : A → A → Bool) (calls : A → List A) (first : List A) (k n m : ℕ)
    → m ≡ k + n → length (steps same calls first n) ≤ length (steps same calls first m)
grows same calls first zero n m e =
    let same_place : m ≡ n = omega arith in rw same_place (omega arith)
grows same calls first (suc k) n m e =
    let next : m ≡ suc (k + n) = omega arith in
    rw next (omega (
      arith,
      grows same calls first k n (k + n) refl,
      length-append (steps same calls first (k + n))
          (new_ones same (steps same calls first (k + n))
          (calls_of calls (slice_get (steps same calls first (k + n)) (k + n)))),
    ))

-- where all are visited nothing more is found
stays : {A : Type 0} (same : A → A → Bool) (calls : A → List A) (first : List A) (k n m : ℕ)
    → length (steps same calls first n) ≤ n → m ≡ k + n
    → steps same calls first m ≡ steps same calls first n
stays same calls first zero n m le e = let same_place : m ≡ n = omega arith in rw same_place refl
stays same calls first (suc k) n m le e =
    let next : m ≡ suc (k + n) = omega arith in
    let before = stays same calls first k n (k + n) le refl in
    let past : length (steps same calls first (k + n)) ≤ k + n =
    let l = ap length before in omega (arith, l, le) in
    ap (steps same calls first) next
    ∙ ap (λ o. with_new same (steps same calls first (k + n)) (calls_of calls o))
    (slice_get_past (steps same calls first (k + n)) (k + n) past)
    ∙ append-nil (steps same calls first (k + n)) ∙ before

-- a round visits the latest, one after the other
round : {A : Type 0} (same : A → A → Bool) (calls : A → List A) (first latest base fresh : List A)
    (n m : ℕ) → steps same calls first n ≡ base ++ (latest ++ fresh) → length base ≡ n
    → m ≡ length latest + n
    → steps same calls first m
    ≡ with_new same (base ++ (latest ++ fresh)) (flat_map calls latest)
round same calls first [] base fresh n m e at to =
    let same_place : m ≡ n = omega arith in
    ap (steps same calls first) same_place ∙ e ∙ sym (append-nil (base ++ fresh))
round same calls first (a ∷ as') base fresh n m e at to =
    let known = base ++ (a ∷ (as' ++ fresh)) in
    let more = new_ones same known (calls a) in
    let here : slice_get (steps same calls first n) n ≡ Some a =
    ap (λ k. slice_get k n) e ∙ ap (slice_get known) (sym at)
    ∙ slice_get-at base a (as' ++ fresh) in
    let one : steps same calls first (suc n) ≡ with_new same known (calls a) =
    ap (λ o. with_new same (steps same calls first n) (calls_of calls o)) here
    ∙ ap (λ k. with_new same k (calls a)) e in
    let shape : with_new same known (calls a) ≡ (base ++ a ∷ []) ++ (as' ++ (fresh ++ more)) =
    append_assoc base (a ∷ (as' ++ fresh)) more
    ∙ ap (λ rest. base ++ a ∷ rest) (append_assoc as' fresh more)
    ∙ sym (append_assoc base (a ∷ []) (as' ++ (fresh ++ more))) in
    let next_at : length (base ++ a ∷ []) ≡ suc n =
    length-append base (a ∷ []) ∙ omega arith in
    let there : m ≡ length as' + suc n = omega arith in
    round same calls first as' (base ++ a ∷ []) (fresh ++ more) (suc n) m (one ∙ shape) next_at
    there
    ∙ ap (λ k. with_new same k (flat_map calls as')) (sym shape)
    ∙ with_new-append same known (calls a) (flat_map calls as')

settled : {A : Type 0} (same : A → A → Bool) (calls : A → List A) (first : List A) (room : ℕ)
    (base latest : List A) (n m : ℕ) → steps same calls first n ≡ base ++ latest
    → length base ≡ n → n ≤ m → m < n + room → length (steps same calls first m) ≤ m
    → reached room same calls (base ++ latest) latest ≡ steps same calls first m
settled same calls first zero base latest n m e at low high all = absurd (omega arith)
settled same calls first (suc room) base [] n m e at low high all =
    let here : steps same calls first n ≡ base = e ∙ append-nil base in
    let done : length (steps same calls first n) ≤ n =
    let l = ap length here in omega (arith, l) in
    let far : m ≡ (m - n) + n = omega arith in
    sym e ∙ sym (stays same calls first (m - n) n m done far)
settled same calls first (suc room) base (a ∷ as') n m e at low high all =
    let latest = a ∷ as' in
    let known = base ++ latest in
    let fresh = new_ones same known (flat_map calls latest) in
    let e' : steps same calls first n ≡ base ++ (latest ++ []) =
    e ∙ ap (λ l. base ++ l) (sym (append-nil latest)) in
    let after : steps same calls first (length latest + n) ≡ known ++ fresh =
    round same calls first latest base [] n (length latest + n) e' at refl
    ∙ ap (λ l. with_new same (base ++ l) (flat_map calls latest)) (append-nil latest) in
    let long : length known ≡ length latest + n =
    length-append base latest ∙ omega arith in
    let grown = grows same calls first (m - n) n m (omega arith) in
    let size = ap length e in
    settled same calls first room known fresh (length latest + n) m after long
    (omega arith) (omega arith) all

pub all_reached-is : {A : Type 0} (same : A → A → Bool) (calls : A → List A) (first known : List A)
    (m : ℕ) → known ≡ steps same calls first m → length known ≤ m → m < 2 ^ 64
    → all_reached same calls first ≡ known
unfolding rounds
all_reached-is same calls first known m e le high =
    settled same calls first rounds [] (new_ones same [] first) 0 m refl refl (omega arith)
    (omega arith) (let l = ap length e in omega arith) ∙ sym e

-- ---- a test of all that is known
pub tested_one : {A : Type 0} (test : A → Bool) (known more : List A) (n : ℕ) → n < length known
    → list_any test (take (suc n) (known ++ more))
    ≡ (list_any test (take n known) || told test (slice_get known n))
tested_one test [] more n lt = absurd (omega arith)
tested_one test (x ∷ xs) more zero lt = or_same (test x)
  where
    or_same : (b : Bool) → (b || false) ≡ b
    or_same true = refl
    or_same false = refl
tested_one test (x ∷ xs) more (suc n) lt =
    ap (λ b. test x || b) (tested_one test xs more n (omega arith))
    ∙ or_assoc (test x) (list_any test (take n xs)) (told test (slice_get xs n))
  where
    or_assoc : (a b c : Bool) → (a || (b || c)) ≡ ((a || b) || c)
    or_assoc true b c = refl
    or_assoc false b c = refl

-- what stands at a place
pub found_at : {A B : Type 0} (f : A → B) (xs ys : List A) (i : ℕ) (x : A) → ys ≡ xs
    → i < length ys → x ≡ get_or ys i x → slice_get (map f xs) i ≡ Some (f x)
found_at f xs ys i x e lt is =
    slice_get-map f xs i ∙ ap (λ l. option_map f (slice_get l i)) (sym e)
    ∙ ap (option_map f) (slice_get_read ys (length ys) i x refl lt is)

pub by_get : (xs : List ℕ) (i : ℕ) (r : Option (Bor ℕ)) → IsItemAt xs i r
    → slice_get xs i ≡ option_copied r
by_get xs i None h = slice_get_past xs i h.3
by_get xs i (Some x) h = slice_get_read xs (length xs) i x.now refl h.3.0 h.1

pub not_found : {A B : Type 0} (f : A → B) (xs ys : List A) (i : ℕ) → ys ≡ xs → length ys ≤ i
    → slice_get (map f xs) i ≡ None
not_found f xs ys i e le =
    slice_get-map f xs i ∙ ap (λ l. option_map f (slice_get l i)) (sym e)
    ∙ ap (option_map f) (slice_get_past ys i le)

-- what holds behind as many visits, each with a test
pub record Visits {A : Type 0} (same : A → A → Bool) (calls : A → List A) (test : A → Bool)
    (first known : List A) (n : ℕ) (found : Bool) : Type 0 where
  pub known_is : known ≡ steps same calls first n
  pub within : n ≤ length known
  pub found_is : found ≡ list_any test (take n known)

pub visits_more : {A : Type 0} (same : A → A → Bool) (calls : A → List A) (test : A → Bool)
    (first known new : List A) (n : ℕ) (found one : Bool)
    → Visits same calls test first known n found → n < length known
    → new ≡ visited same calls n known → one ≡ told test (slice_get known n)
    → Visits same calls test first new (n + 1) (found || one)
visits_more same calls test first known new n found one v lt e told_is =
    let more = new_ones same known (calls_of calls (slice_get known n)) in
    record {
      known_is = e ∙ ap (visited same calls n) v.known_is
          ∙ ap (steps same calls first) (sym (add-one n));
      within = let size = ap length e ∙ length-append known more in omega (arith, size, lt);
      found_is = ap (λ b. b || one) v.found_is ∙ ap (λ b. list_any test (take n known) || b) told_is
          ∙ sym (ap (λ m. list_any test (take m new)) (add-one n)
          ∙ ap (λ k. list_any test (take (suc n) k)) e ∙ tested_one test known more n lt);
    }

pub visits_all : {A : Type 0} (same : A → A → Bool) (calls : A → List A) (test : A → Bool)
    (first known : List A) (n : ℕ) (found : Bool) → Visits same calls test first known n found
    → length known ≤ n → n < 2 ^ 64 → found ≡ list_any test (all_reached same calls first)
visits_all same calls test first known n found v le high =
    v.found_is ∙ ap (list_any test) (take_all n known le
    ∙ sym (all_reached-is same calls first known n v.known_is le high))
