-- Two executions side by side, and the variables that they assign.
use Rattle.std.proofs.Common.{◌≡◌, ℕ, ◌<◌, ◌≤◌, Bool, true, false, cond, List, [], ◌∷◌, ◌++◌}
use Rattle.std.proofs.Common.{length, map, replicate, Option, Some, None, Ok, Err, refl, sym, ap}
use Rattle.std.proofs.Common.{subst, ◌∙◌, arith, length-set, inl, inr}
use Rattle.std.specs.Prelude.{slice_index, slice_set, unwrap_or, ◌==◌, ◌||◌}
use Rattle.std.specs.List.{AllByRecursion, list_any}
use Rattle.std.proofs.lemmas.Bool.{cases_lt, cases_eq, eqb-true, eqb-false}
use Rattle.std.proofs.lemmas.List.{get_or_past, length-replicate}
use Rattle.cir_ast.specs.declared.program.Meant.{Meant}
use Rattle.cir_ast.specs.declared.program.Meant.TheVariants as meant
use Rattle.cir_ast.specs.Tree.{Expr, Accessors, done, index, member}
use Rattle.cir_meaning.specs.Tried.{next}
use Rattle.cir_meaning.specs.Limits.{is_too_large}
use Rattle.cir_meaning.specs.Places.{elements, is_inside, left_of, places_of}
use Rattle.cir_meaning.specs.Arrays.{put_items, filled}
use Rattle.cir_meaning.specs.Texts.{indices_of}
use Rattle.cir_meaning.specs.RunValues.{Ran, Numbers, Environment, Store, stored, gives, number}
use Rattle.cir_meaning.specs.RunValues.{number_in, index_numbers, bounded, the_number, index_out}
use Rattle.cir_meaning.specs.RunStatements.{step_set}
use Rattle.wit_lower.specs.Homes.{Variable, Home, Homes, Ground, find}
use Rattle.wit_lower.specs.Fits.{IndicesFit, Fits}
use Rattle.wit_lower.proofs.Shows.{KnownAt}
use Rattle.wit_lower.proofs.Frames.{set_same, set_other}
use Rattle.wit_lower.proofs.Exprs.{Agree, agree_more}
use Rattle.wit_lower.proofs.Scopes.{stored_same as stored_set, stored_other}
use Rattle.cir_emit.specs.Reads.{Reading, expr_reads}
use Rattle.cir_emit.proofs.Arrays.{SameNumbers}
use Rattle.cir_emit.proofs.Values.{Alike, Shared, SameStores, Outer, expr_same}

-- both end with as many units and related results, or stop alike
abbrev pub Twin : {A B : Type 0} → (A → B → Type 0) → Ran A → Ran B → Type 0
Twin R (Ok x) (Ok y) = R x.0 y.0 × (x.1 ≡ y.1)
Twin R (Ok x) (Err t) = ⊥
Twin R (Err s) (Ok y) = ⊥
Twin R (Err s) (Err t) = s ≡ t

pub twin_next : {A B C D : Type 0} (R : A → B → Type 0) (S : C → D → Type 0) (m : Ran A)
    (n : Ran B) (f : A × ℕ → Ran C) (k : B × ℕ → Ran D) → Twin R m n
    → ((a : A) (b : B) (u : ℕ) → m ≡ Ok (a, u) → R a b → Twin S (f (a, u)) (k (b, u)))
    → Twin S (next m f) (next n k)
twin_next R S (Ok (a, u)) (Ok (b, v)) f k (r, e) h =
    subst (λ w. Twin S (f (a, u)) (k (b, w))) e (h a b u refl r)
twin_next R S (Ok x) (Err t) f k r h = absurd r
twin_next R S (Err s) (Ok y) f k r h = absurd r
twin_next R S (Err s) (Err t) f k e h = e

pub twin_from : {A C D : Type 0} (S : C → D → Type 0) (m n : Ran A) (f : A × ℕ → Ran C)
    (k : A × ℕ → Ran D) → m ≡ n → ((x : A × ℕ) → m ≡ Ok x → Twin S (f x) (k x))
    → Twin S (next m f) (next n k)
twin_from S (Ok x) n f k e h = subst (λ y. Twin S (f x) (next y k)) e (h x refl)
twin_from S (Err s) n f k e h = subst (λ y. Twin S (Err s) (next y k)) e refl

pub twin_number : {C D : Type 0} (S : C → D → Type 0) (m n : Ran Numbers) (f : ℕ → ℕ → Ran C)
    (k : ℕ → ℕ → Ran D) → m ≡ n
    → ((x : Numbers × ℕ) → m ≡ Ok x → Twin S (f (the_number x.0) x.1) (k (the_number x.0) x.1))
    → Twin S (number m f) (number n k)
twin_number S m n f k e h =
    twin_from S m n (λ x. f (the_number x.0) x.1) (λ x. k (the_number x.0) x.1) e h

pub twin_bounded : {C D : Type 0} (S : C → D → Type 0) (dims ds es is : List ℕ)
    (f : List ℕ → List ℕ → Ran C) (k : List ℕ → List ℕ → Ran D) → ds ≡ dims → es ≡ dims
    → (is_inside dims (map Some is) ≡ true → (left : List ℕ)
    → Twin S (f left (places_of dims (map Some is))) (k left (places_of dims (map Some is))))
    → Twin S (bounded ds is f) (bounded es is k)
twin_bounded S dims ds es is f k ed ee h =
    subst (λ xs. Twin S (bounded xs is f) (bounded es is k)) (sym ed)
    (subst (λ ys. Twin S (bounded dims is f) (bounded ys is k)) (sym ee)
    (at (is_inside dims (map Some is)) h))
  where
    left : List ℕ
    left = unwrap_or (left_of dims (map Some is)) []

    places : List ℕ
    places = places_of dims (map Some is)

    at : (b : Bool) → (b ≡ true → (left : List ℕ) → Twin S (f left places) (k left places))
        → Twin S (cond b (f left places) (Err index_out)) (cond b (k left places) (Err index_out))
    at true h = h refl left
    at false h = refl

-- items that are put into lists which agree at a place
pub put_long : (ps new xs : List ℕ) → length (put_items ps new xs) ≡ length xs
put_long [] new xs = refl
put_long (p ∷ ps) [] xs = refl
put_long (p ∷ ps) (a ∷ new) xs = put_long ps new (slice_set xs p a) ∙ length-set xs p a

set_at : (xs ys : List ℕ) (p a k : ℕ) → length xs ≡ length ys
    → slice_index xs k ≡ slice_index ys k
    → slice_index (slice_set xs p a) k ≡ slice_index (slice_set ys p a) k
set_at xs ys p a k len e =
    elim (cases_eq k p) [
      | inl same ↦
          elim (cases_lt p (length xs)) [
            | inl l ↦
                ap (slice_index (slice_set xs p a)) same ∙ set_same xs p a l ∙
                sym (ap (slice_index (slice_set ys p a)) same
                ∙ set_same ys p a (omega (arith, l, len)))
            | inr l ↦
                get_or_past (slice_set xs p a) k 0 (omega (arith, l, same, length-set xs p a)) ∙
                sym (get_or_past (slice_set ys p a) k 0
                (omega (arith, l, same, len, length-set ys p a)))
          ]
      | inr other ↦ set_other xs p k a other ∙ e ∙ sym (set_other ys p k a other)
    ]

pub put_at : (ps new xs ys : List ℕ) (k : ℕ) → length xs ≡ length ys
    → slice_index xs k ≡ slice_index ys k
    → slice_index (put_items ps new xs) k ≡ slice_index (put_items ps new ys) k
put_at [] new xs ys k len e = e
put_at (p ∷ ps) [] xs ys k len e = e
put_at (p ∷ ps) (a ∷ new) xs ys k len e =
    put_at ps new (slice_set xs p a) (slice_set ys p a) k
    (length-set xs p a ∙ len ∙ sym (length-set ys p a)) (set_at xs ys p a k len e)

-- a place that is written has its new item in both
pub put_there : (ps new xs ys : List ℕ) (k : ℕ) → length xs ≡ length ys → k < length xs
    → length ps ≤ length new → list_any (λ p. p == k) ps ≡ true
    → slice_index (put_items ps new xs) k ≡ slice_index (put_items ps new ys) k
put_there [] new xs ys k len l few h = cc
put_there (p ∷ ps) [] xs ys k len l few h = absurd (omega (arith, few))
put_there (p ∷ ps) (a ∷ new) xs ys k len l few h =
    at (λ size inside rest. put_there ps new (slice_set xs p a) (slice_set ys p a) k size inside
    (omega (arith, few)) rest) (p == k) refl h
  where
    xs1 : List ℕ
    xs1 = slice_set xs p a

    ys1 : List ℕ
    ys1 = slice_set ys p a

    size : length xs1 ≡ length ys1
    size = length-set xs p a ∙ len ∙ sym (length-set ys p a)

    at : (length xs1 ≡ length ys1 → k < length xs1 → list_any (λ p. p == k) ps ≡ true
        → slice_index (put_items ps new xs1) k ≡ slice_index (put_items ps new ys1) k)
        → (b : Bool) → (p == k) ≡ b → (b || list_any (λ p. p == k) ps) ≡ true
        → slice_index (put_items ps new xs1) k ≡ slice_index (put_items ps new ys1) k
    at later true e h =
        let same : k ≡ p = sym (eqb-true p k e) in
        put_at ps new xs1 ys1 k size
        (ap (slice_index xs1) same ∙ set_same xs p a (omega (arith, l, same)) ∙
        sym (ap (slice_index ys1) same ∙ set_same ys p a (omega (arith, l, same, len))))
    at later false e h = later size (omega (arith, l, length-set xs p a)) h

nil_behind : {A : Type 0} (xs : List A) → xs ++ [] ≡ xs
nil_behind [] = refl
nil_behind (x ∷ xs) = ap (λ ys. x ∷ ys) (nil_behind xs)

one_behind : {A : Type 0} (xs : List A) (y : A) (ys : List A) → (xs ++ y ∷ []) ++ ys ≡ xs ++ y ∷ ys
one_behind [] y ys = refl
one_behind (x ∷ xs) y ys = ap (λ zs. x ∷ zs) (one_behind xs y ys)

-- what a variable is behind an assignment to a part of it
abbrev pub with_part : Numbers → (places : List ℕ) → (value : Numbers) → Numbers
with_part old places d = record { dims = old.dims; items = put_items places d.items old.items }

module _ (g : Ground) (first : Homes) (Loaded : Reading → Type 0) (Whole : ℕ → Type 0)
    (one two : Environment) (alike : Alike g first Loaded one two) (homes : Homes)
    (outer : Outer Whole first homes) (store other : Store)
    (stores : SameStores Loaded Whole homes store other) (known_at : KnownAt g one store) where
  abbrev Covered : Expr Meant → Type 0
  Covered e = AllByRecursion Loaded (expr_reads g first e)

  same : (e : Expr Meant) (u : ℕ) → Fits g homes e → Covered e
      → number_in one store e u ≡ number_in two other e u
  same e u fits covered =
      expr_same g first Loaded Whole one two alike homes outer store other stores known_at e u fits
      covered

  twin_indices : {C D : Type 0} (S : C → D → Type 0) (rest : Accessors Meant)
      (known : List (Option ℕ)) (is : List ℕ) (u : ℕ) (f : List ℕ → ℕ → Ran C)
      (k : List ℕ → ℕ → Ran D) → Agree known is → IndicesFit g homes rest
      → AllByRecursion Covered (indices_of rest)
      → ((js : List ℕ) (v : ℕ) → Agree (known ++ map g.known (indices_of rest)) js
      → Twin S (f js v) (k js v))
      → Twin S (index_numbers one store is rest u f) (index_numbers two other is rest u k)
  twin_indices S done known is u f k a fits covered go =
      go is u (subst (λ os. Agree os is) (sym (nil_behind known)) a)
  twin_indices S (member name rest) known is u f k a fits covered go = absurd fits
  twin_indices S (index e rest) known is u f k a ((fe, se), fr) covered go =
      twin_number S (number_in one store e u) (number_in two other e u)
      (λ n v. index_numbers one store (is ++ n ∷ []) rest v f)
      (λ n v. index_numbers two other (is ++ n ∷ []) rest v k) (same e u fe covered.0)
      (λ x ex. twin_indices S rest (known ++ g.known e ∷ []) (is ++ the_number x.0 ∷ []) x.1 f k
      (agree_more known is (g.known e) (the_number x.0) a (λ n en. known_at e n u x en ex)) fr
      covered.1
      (λ js v b. go js v
      (subst (λ os. Agree os js) (one_behind known (g.known e) (map g.known (indices_of rest))) b)))

  -- an assignment to a part of a variable
  pub twin_set : (S : Store → Store → Type 0) (n : ℕ) (h : Home) (accessors : Accessors Meant)
      (e : Expr Meant) (u : ℕ) → find (Variable n) homes ≡ Some h → Fits g homes e
      → IndicesFit g homes accessors → Covered e → AllByRecursion Covered (indices_of accessors)
      → ((x : Numbers × ℕ) (is : List ℕ) → number_in one store e u ≡ Ok x
      → Agree (map g.known (indices_of accessors)) is → is_inside h.dims (map Some is) ≡ true
      → S (slice_set store n (with_part (stored store n) (places_of h.dims (map Some is)) x.0))
      (slice_set other n (with_part (stored other n) (places_of h.dims (map Some is)) x.0)))
      → Twin S (step_set one (meant.Variable n) accessors e store u)
      (step_set two (meant.Variable n) accessors e other u)
  twin_set S n h accessors e u found fits indices covered others go =
      twin_from S (number_in one store e u) (number_in two other e u)
      (λ x. index_numbers one store [] accessors x.1 (λ is v. bounded (stored store n).dims is
      (λ left places. gives (slice_set store n (with_part (stored store n) places x.0)) v)))
      (λ x. index_numbers two other [] accessors x.1 (λ is v. bounded (stored other n).dims is
      (λ left places. gives (slice_set other n (with_part (stored other n) places x.0)) v)))
      (same e u fits covered)
      (λ x ex. twin_indices S accessors [] [] x.1
      (λ is v. bounded (stored store n).dims is
      (λ left places. gives (slice_set store n (with_part (stored store n) places x.0)) v))
      (λ is v. bounded (stored other n).dims is
      (λ left places. gives (slice_set other n (with_part (stored other n) places x.0)) v))
      tt indices others
      (λ is v a. twin_bounded S h.dims (stored store n).dims (stored other n).dims is
      (λ left places. gives (slice_set store n (with_part (stored store n) places x.0)) v)
      (λ left places. gives (slice_set other n (with_part (stored other n) places x.0)) v)
      (stores n h found).first (stores n h found).second
      (λ inside left. (go x is ex a inside, refl))))

-- a variable that has a new value
module _ (Loaded : Reading → Type 0) (Whole : ℕ → Type 0) where
  pub stores_set : (homes : Homes) (store other : Store) (n : ℕ) (h : Home) (d e : Numbers)
      → SameStores Loaded Whole homes store other → n < length store → length store ≡ length other
      → find (Variable n) homes ≡ Some h → SameNumbers (Shared Loaded Whole n) h.dims d e
      → SameStores Loaded Whole homes (slice_set store n d) (slice_set other n e)
  stores_set homes store other n h d e stores l len found new m j ej =
      elim (cases_eq m n) [
        | inl same ↦
            let there : find (Variable n) homes ≡ Some j =
            subst (λ z. find (Variable z) homes ≡ Some j) same ej in
            let homes_are : h ≡ j = cc in
            subst (λ z. SameNumbers (Shared Loaded Whole z) j.dims (stored (slice_set store n d) z)
            (stored (slice_set other n e) z)) (sym same)
            (subst (λ x. SameNumbers (Shared Loaded Whole n) j.dims x
            (stored (slice_set other n e) n)) (sym (stored_set store n d l))
            (subst (λ y. SameNumbers (Shared Loaded Whole n) j.dims d y)
            (sym (stored_set other n e (omega (arith, l, len))))
            (subst (λ z. SameNumbers (Shared Loaded Whole n) z.dims d e) homes_are new)))
        | inr differ ↦
            subst (λ x. SameNumbers (Shared Loaded Whole m) j.dims x
            (stored (slice_set other n e) m)) (sym (stored_other store n m d differ))
            (subst (λ y. SameNumbers (Shared Loaded Whole m) j.dims (stored store m) y)
            (sym (stored_other other n m e differ)) (stores m j ej))
      ]

  -- a part of a variable that is whole
  pub part_set : (n : ℕ) (dims : List ℕ) (a b : Numbers) (places : List ℕ) (d : Numbers) → Whole n
      → SameNumbers (Shared Loaded Whole n) dims a b
      → SameNumbers (Shared Loaded Whole n) dims (with_part a places d) (with_part b places d)
  part_set n dims a b places d w s = record {
    first = s.first;
    second = s.second;
    long = put_long places d.items a.items ∙ s.long;
    other_long = put_long places d.items b.items ∙ s.other_long;
    each = λ k h. put_at places d.items a.items b.items k (s.long ∙ sym s.other_long)
        (s.each k (inl w));
  }

  -- a variable that is declared
  pub filled_same : (n : ℕ) (dims : List ℕ)
      → SameNumbers (Shared Loaded Whole n) dims (filled dims 0) (filled dims 0)
  filled_same n dims = record {
    first = refl;
    second = refl;
    long = long (is_too_large dims);
    other_long = long (is_too_large dims);
    each = λ k h. refl;
  }
    where
      long : (b : Bool) → length {A = ℕ} (cond b [] (replicate (elements dims) 0))
          ≡ cond b 0 (elements dims)
      long true = refl
      long false = length-replicate (elements dims) 0

  pub stores_new : (homes : Homes) (store other : Store) (n : ℕ) (h : Home) (d e : Numbers)
      → SameStores Loaded Whole homes store other → n < length store → length store ≡ length other
      → SameNumbers (Shared Loaded Whole n) h.dims d e
      → SameStores Loaded Whole (record { name = Variable n; home = h } ∷ homes)
      (slice_set store n d) (slice_set other n e)
  stores_new homes store other n h d e stores l len new m j ej =
      at (m == n) refl ej
    where
      at : (b : Bool) → (m == n) ≡ b → cond b (Some h) (find (Variable m) homes) ≡ Some j
          → SameNumbers (Shared Loaded Whole m) j.dims (stored (slice_set store n d) m)
          (stored (slice_set other n e) m)
      at true em ej =
          let homes_are : h ≡ j = cc in
          subst (λ z. SameNumbers (Shared Loaded Whole z) j.dims (stored (slice_set store n d) z)
          (stored (slice_set other n e) z)) (sym (eqb-true m n em))
          (subst (λ x. SameNumbers (Shared Loaded Whole n) j.dims x
          (stored (slice_set other n e) n)) (sym (stored_set store n d l))
          (subst (λ y. SameNumbers (Shared Loaded Whole n) j.dims d y)
          (sym (stored_set other n e (omega (arith, l, len))))
          (subst (λ z. SameNumbers (Shared Loaded Whole n) z.dims d e) homes_are new)))
      at false em ej =
          subst (λ x. SameNumbers (Shared Loaded Whole m) j.dims x
          (stored (slice_set other n e) m))
          (sym (stored_other store n m d (λ s. eqb-false m n em s)))
          (subst (λ y. SameNumbers (Shared Loaded Whole m) j.dims (stored store m) y)
          (sym (stored_other other n m e (λ s. eqb-false m n em s))) (stores m j ej))

  -- the scope ends
  pub stores_outer : (homes : Homes) (store other : Store) (n : ℕ) (h : Home)
      → find (Variable n) homes ≡ None
      → SameStores Loaded Whole (record { name = Variable n; home = h } ∷ homes) store other
      → SameStores Loaded Whole homes store other
  stores_outer homes store other n h fresh stores m j ej = stores m j (at (m == n) refl)
    where
      at : (b : Bool) → (m == n) ≡ b → cond b (Some h) (find (Variable m) homes) ≡ Some j
      at true em =
          let there : None ≡ Some j =
          sym fresh ∙ subst (λ z. find (Variable z) homes ≡ Some j) (eqb-true m n em) ej in cc
      at false em = ej
